-- R5 to R7 and R9: dates in the Gregorian calendar, 2000 to 2099.
use Rattle.std.specs.Prelude.{ℕ, ◌+◌, ◌-◌, ◌*◌, ◌/◌, ◌%◌, Bool, cond, not, ◌&&◌, ◌||◌, eqb, leb, ltb, List, [], ◌∷◌, get_or, take}
use Rattle.tariff.specs.Structs.{Date, Month}
use Rattle.tariff.specs.Months.{same_month, january, march, april, december}

-- R5: k divides n.
unfoldable pub divides : ℕ → ℕ → Bool
divides k n = eqb (n % k) 0

-- R5: every fourth year, but of full centuries only every fourth.
unfoldable pub leap : ℕ → Bool
leap year = divides 4 year && (not (divides 100 year) || divides 400 year)

-- R5: the lengths of a year's months, January to December.
unfoldable pub lengths : ℕ → List ℕ
lengths year = 31 ∷ cond (leap year) 29 28 ∷ 31 ∷ 30 ∷ 31 ∷ 30 ∷ 31 ∷ 31 ∷ 30 ∷ 31 ∷ 30 ∷ 31 ∷ []

-- R5: a month's length in its year; months are counted from 1, the list from 0.
unfoldable pub month_length : ℕ → Month → ℕ
month_length year m = get_or (lengths year) (m.0 - 1) 0

-- R5: the date exists, within these hundred years.
unfoldable pub real : Date → Bool
real d =
    (leb 1 d.month.0 && leb d.month.0 12)
    && (leb 2000 d.year && leb d.year 2099)
    && (leb 1 d.day && leb d.day (month_length d.year d.month))

-- R6: day, month and year all agree.
unfoldable pub same_date : Date → Date → Bool
same_date a b = eqb a.year b.year && same_month a.month b.month && eqb a.day b.day

-- R6: the first date lies before the second: the year decides, then the month, then the day.
unfoldable pub before : Date → Date → Bool
before a b =
    ltb a.year b.year
    || (eqb a.year b.year && (ltb a.month.0 b.month.0 || (eqb a.month.0 b.month.0 && ltb a.day b.day)))

-- R6: the date ends its month; V5 and the two closings ask for it too.
unfoldable pub last_of_month : Date → Bool
last_of_month d = eqb d.day (month_length d.year d.month)

-- R9: the date is the day `day` of the month m, in any year.
unfoldable pub is_on : Month → ℕ → Date → Bool
is_on m day d = same_month d.month m && eqb d.day day

-- R6: the end of the calendar, which no closing moves past.
unfoldable pub last_date : Date → Bool
last_date d = eqb d.year 2099 && is_on december 31 d

-- R6: a month's last day leads to the first of the next month, December's to the next year.
unfoldable pub day_after : Date → Date
day_after d =
    record {
      year = cond (last_of_month d && same_month d.month december) (d.year + 1) d.year;
      month = record { 0 = cond (last_of_month d) (d.month.0 % 12 + 1) d.month.0 };
      day = cond (last_of_month d) 1 (d.day + 1);
    }

-- R7: the sum of a list.
unfoldable pub total : List ℕ → ℕ
total [] = 0
total (n ∷ ns) = n + total ns

-- R7: days since 1 January 2000: 365 to a year, a leap day for every fourth year begun, then months and days.
-- 2000 was a leap year and 2100 lies beyond, so no century is left out.
unfoldable pub day_number : Date → ℕ
day_number d =
    365 * (d.year - 2000) + (d.year - 2000 + 3) / 4 + total (take (d.month.0 - 1) (lengths d.year)) + (d.day - 1)

-- R7: Monday 0 to Sunday 6; 1 January 2000 was a Saturday, 5.
unfoldable pub weekday : Date → ℕ
weekday d = (day_number d + 5) % 7

-- R9: the day that begins a gas year.
unfoldable pub first_of_gas_year : Date → Bool
first_of_gas_year d = is_on april 1 d

-- R85: the days whose closing forfeits gas (R57), on which the storage provider tells what it confiscated.
unfoldable pub confiscation_day : Date → Bool
confiscation_day d = is_on january 31 d || is_on march 31 d
