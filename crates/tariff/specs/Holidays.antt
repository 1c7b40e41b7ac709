-- R8, R101, R103 and R104: the days that are named as holidays, and the day of a month on which meters are read.
use Rattle.std.specs.Prelude.{ℕ, zero, suc, ◌+◌, ◌-◌, Bool, true, false, cond, not, ◌&&◌, ◌||◌, eqb, leb, ltb, List, [], ◌∷◌, ◌++◌, length, take, replicate, ◌≡◌}
use Rattle.tariff.specs.Structs.{Date, Holidays, Month}
use Rattle.tariff.specs.Dates.{before, month_length, real, same_date, weekday}

-- R101: a date from its parts, and what stands in a place that holds none.
abbrev pub date_of : ℕ → Month → ℕ → Date
date_of year m day = record { year = year; month = m; day = day }

abbrev pub no_date : Date
no_date = date_of 0 (record { 0 = 0 }) 0

-- R101: the dates that are held: as many places as are counted, from the first on. No place past them is looked at.
unfoldable pub held_dates : Holidays → List Date
held_dates h = take h.count h.dates

-- R101: a list of at most sixteen dates, stored anew: each in its place, and zeros in every place past them.
unfoldable pub stored_dates : List Date → Holidays
stored_dates hs = record { count = length hs; dates = hs ++ replicate (16 - length hs) no_date }

-- R8: the date is one of those named.
unfoldable pub named : List Date → Date → Bool
named [] d = false
named (h ∷ hs) d = same_date h d || named hs d

-- R8: Monday to Friday, and no holiday.
unfoldable pub business_day : List Date → Date → Bool
business_day hs d = ltb (weekday d) 5 && not (named hs d)

-- R8: the first business day among so many days of a month from a given one on; 0, which is no day, where there is none.
unfoldable pub first_business_day : List Date → ℕ → Month → ℕ → ℕ → ℕ
first_business_day hs year m day zero = 0
first_business_day hs year m day (suc n) = cond (business_day hs (date_of year m day)) day (first_business_day hs year m (day + 1) n)

-- R8: the first business day from the 25th to the month's last day.
unfoldable pub measurement_day : List Date → ℕ → Month → ℕ
measurement_day hs year m = first_business_day hs year m 25 (month_length year m - 24)

-- R8: the date is the measurement day of its own month.
unfoldable pub on_measurement_day : List Date → Date → Bool
on_measurement_day hs d = eqb d.day (measurement_day hs d.year d.month)

-- R103: the month of a date has a measurement day.
unfoldable pub leaves_one : List Date → Date → Bool
leaves_one hs d = not (eqb (measurement_day hs d.year d.month) 0)

-- R103: each of some dates exists, and its month has a measurement day in spite of all that are held.
unfoldable pub all_leave_one : List Date → List Date → Bool
all_leave_one hs [] = true
all_leave_one hs (d ∷ ds) = (real d && leaves_one hs d) && all_leave_one hs ds

-- R103: at most sixteen are held, and meters can be read in the month of each.
unfoldable pub holidays_in_range : Holidays → Bool
holidays_in_range h = leb h.count 16 && all_leave_one (held_dates h) (held_dates h)

-- R104: those before a date are gone; the others keep their order.
unfoldable pub kept_from : Date → List Date → List Date
kept_from first [] = []
kept_from first (h ∷ hs) = cond (before h first) (kept_from first hs) (h ∷ kept_from first hs)

-- R104: told without working it out: the second list is the first less the dates that lie before one, and what is left stands in its old order.
pub data Without (first : Date) : List Date → List Date → Type 0 where
  none : Without first [] []
  gone : (d : Date) (hs ks : List Date) → before d first ≡ true → Without first hs ks → Without first (d ∷ hs) ks
  left : (d : Date) (hs ks : List Date) → before d first ≡ false → Without first hs ks → Without first (d ∷ hs) (d ∷ ks)
