-- What holidays do to the day on which meters are read, and what they leave alone.
use Rattle.std.specs.Prelude.{ℕ, Bool, true, cond, not, ◌&&◌, leb, List, [], ◌∷◌, ◌++◌, ◌≡◌}
use Rattle.ledger.specs.Structs.{Date, Ledger, Month}
use Rattle.tariff.specs.Dates.{before}
use Rattle.tariff.specs.Holidays.{Without, measurement_day, named, stored_dates}
use Rattle.tariff.specs.MeasurementDays.{IsMeasurementDay, MonthExists, NextBusinessDay}
use Rattle.ledger.specs.Kinds.{TERMS, CLOSE_MONTH, HOLIDAY}
use Rattle.ledger.specs.Entries.{day_named, entry_of}
use Rattle.ledger.specs.State.{fresh, held_in}
use Rattle.ledger.specs.Ranges.{in_range}
use Rattle.ledger.specs.Posting.{posted}
use Rattle.ledger.specs.Running.{run}

-- R105: a year and a month of the calendar, as numbers that anyone may hand in.
unfoldable pub has_month : ℕ → ℕ → Bool
has_month year month = (leb 2000 year && leb year 2099) && (leb 1 month && leb month 12)

-- R105: the measurement day of a month by the holidays that a ledger holds; 0 on a ledger out of range, and where there is no such month.
unfoldable pub measurement_day_in : Ledger → ℕ → ℕ → ℕ
measurement_day_in l year month = cond (in_range l && has_month year month) (measurement_day (held_in l) year (record { 0 = month })) 0

-- R105: whatever is posted to a fresh ledger, what it becomes is in range.
abbrev pub StaysInRange : Type 0
StaysInRange = (new : Bool) (bs : List (List ℕ)) → in_range (run (fresh new) bs) ≡ true

-- R105: and a ledger in range has a measurement day in every month: none is left without a day to be measured on.
abbrev pub EveryMonthMeasured : Type 0
EveryMonthMeasured =
    (l : Ledger) → in_range l ≡ true → (year : ℕ) (m : Month) → MonthExists year m
    → IsMeasurementDay (held_in l) year m (measurement_day (held_in l) year m)

-- R101: any posting but a HOLIDAY and a CLOSE MONTH leaves count and places as they are.
abbrev pub PlacesStay : Type 0
PlacesStay =
    (l : Ledger) (b : List ℕ) → ((entry_of b).kind ≡ HOLIDAY → ⊥) → ((entry_of b).kind ≡ CLOSE_MONTH → ⊥) → (posted l b).ledger.holidays ≡ l.holidays

-- R101: so in a ledger that began fresh there are zeros in every place past the count: its dates are always stored anew.
abbrev pub StoredAnew : Type 0
StoredAnew = (new : Bool) (bs : List (List ℕ)) → (run (fresh new) bs).holidays ≡ stored_dates (held_in (run (fresh new) bs))

-- R104: after an accepted CLOSE MONTH a date is held exactly when it was held before and does not lie before the new day.
abbrev pub DropsPassed : Type 0
DropsPassed =
    (l : Ledger) (b : List ℕ) → (entry_of b).kind ≡ CLOSE_MONTH → (posted l b).answer.number ≡ 0 → (x : Date)
    → named (held_in (posted l b).ledger) x ≡ named (held_in l) x && not (before x (posted l b).ledger.date)

-- R104: and those that are left keep their order.
abbrev pub KeepsOrder : Type 0
KeepsOrder =
    (l : Ledger) (b : List ℕ) → (entry_of b).kind ≡ CLOSE_MONTH → (posted l b).answer.number ≡ 0
    → Without (posted l b).ledger.date (held_in l) (held_in (posted l b).ledger)

-- R102: a HOLIDAY was accepted.
pub record HolidayAccepted (l : Ledger) (b : List ℕ) : Type 0 where
  pub kind : (entry_of b).kind ≡ HOLIDAY
  pub accepted : (posted l b).answer.number ≡ 0

-- R102: then its date is held behind the others.
abbrev pub HoldsIt : Type 0
HoldsIt = (l : Ledger) (b : List ℕ) → HolidayAccepted l b → held_in (posted l b).ledger ≡ held_in l ++ day_named (entry_of b) ∷ []

-- R106: and any bytes are answered on the same day as they would have been without it, closings and MEASURE among them. Only TERMS has to come
-- before every other posting of its day (R27), and a HOLIDAY may name the same date.
abbrev pub SameToday : Type 0
SameToday =
    (l : Ledger) (b c : List ℕ) → HolidayAccepted l b → ((entry_of c).kind ≡ TERMS → ⊥) → ((entry_of c).kind ≡ HOLIDAY → ⊥)
    → (posted (posted l b).ledger c).answer ≡ (posted l c).answer

-- R106: one that names its month's measurement day moves it to the next business day.
abbrev pub MovesMeasuring : Type 0
MovesMeasuring =
    (l : Ledger) (b : List ℕ) → HolidayAccepted l b
    → (day_named (entry_of b)).day ≡ measurement_day (held_in l) (day_named (entry_of b)).year (day_named (entry_of b)).month
    → NextBusinessDay (held_in l) (day_named (entry_of b)).year (day_named (entry_of b)).month (day_named (entry_of b)).day
    (measurement_day (held_in (posted l b).ledger) (day_named (entry_of b)).year (day_named (entry_of b)).month)
