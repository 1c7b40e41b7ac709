-- R105 and R106: what the measurement day is, stated as an order of days and not by the search that finds it.
use Rattle.std.specs.Prelude.{ℕ, ◌<◌, ◌≤◌, true, false, cond, ltb, List, [], ◌∷◌, ◌++◌, ◌≡◌}
use Rattle.tariff.specs.Structs.{Date, Holidays, Month}
use Rattle.tariff.specs.Dates.{month_length, real, weekday}
use Rattle.tariff.specs.Holidays.{business_day, date_of, held_dates, holidays_in_range, leaves_one, measurement_day}

-- R105: the day is a business day from the 25th on, within its month, and no earlier day from the 25th on is one.
pub record IsMeasurementDay (hs : List Date) (year : ℕ) (m : Month) (day : ℕ) : Type 0 where
  pub late : 25 ≤ day
  pub within : day ≤ month_length year m
  pub works : business_day hs (date_of year m day) ≡ true
  pub is_first : (k : ℕ) → 25 ≤ k → k < day → business_day hs (date_of year m k) ≡ false

-- R105: what the search answers is that day, or 0 where the month has no business day from the 25th on.
pub record Found (hs : List Date) (year : ℕ) (m : Month) : Type 0 where
  pub found : (measurement_day hs year m ≡ 0 → ⊥) → IsMeasurementDay hs year m (measurement_day hs year m)
  pub none : measurement_day hs year m ≡ 0 → (k : ℕ) → 25 ≤ k → k ≤ month_length year m → business_day hs (date_of year m k) ≡ false

abbrev pub FindsFirst : Type 0
FindsFirst = (hs : List Date) (year : ℕ) (m : Month) → Found hs year m

-- R105: and no other day is.
abbrev pub OnlyOne : Type 0
OnlyOne = (hs : List Date) (year : ℕ) (m : Month) (day : ℕ) → IsMeasurementDay hs year m day → day ≡ measurement_day hs year m

-- R5: the calendar of 2000 to 2099 has the month.
pub record MonthExists (year : ℕ) (m : Month) : Type 0 where
  pub in_years : (2000 ≤ year) × (year ≤ 2099)
  pub in_months : (1 ≤ m.0) × (m.0 ≤ 12)

-- R105: while the dates held are in range, every month has its measurement day, also one of which no date is held.
abbrev pub EveryMonth : Type 0
EveryMonth =
    (h : Holidays) → holidays_in_range h ≡ true → (year : ℕ) (m : Month) → MonthExists year m
    → IsMeasurementDay (held_dates h) year m (measurement_day (held_dates h) year m)

-- R105: the measurement day as it was before there were holidays: the 25th, or the Monday after it where it falls on a weekend.
unfoldable pub plain_day : ℕ → Month → ℕ
plain_day year m = cond (ltb (weekday (date_of year m 25)) 5) 25 (cond (ltb (weekday (date_of year m 26)) 5) 26 27)

-- R105: where none is held, that is the measurement day.
abbrev pub PlainWithoutHolidays : Type 0
PlainWithoutHolidays = (year : ℕ) (m : Month) → MonthExists year m → measurement_day [] year m ≡ plain_day year m

-- R106: the later day is the business day that follows the earlier one in its month.
pub record NextBusinessDay (hs : List Date) (year : ℕ) (m : Month) (day next : ℕ) : Type 0 where
  pub later : day < next
  pub within : next ≤ month_length year m
  pub works : business_day hs (date_of year m next) ≡ true
  pub is_next : (k : ℕ) → day < k → k < next → business_day hs (date_of year m k) ≡ false

-- R106: naming the measurement day itself moves it to the next business day, where the month has one left.
abbrev pub MovesOn : Type 0
MovesOn =
    (hs : List Date) (d : Date) → real d ≡ true → d.day ≡ measurement_day hs d.year d.month → leaves_one (hs ++ d ∷ []) d ≡ true
    → NextBusinessDay hs d.year d.month d.day (measurement_day (hs ++ d ∷ []) d.year d.month)
