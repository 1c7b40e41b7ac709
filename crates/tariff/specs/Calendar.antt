-- R6, R7: the day after a date is the right one, stated without the definition that computes it.
use Rattle.std.specs.Prelude.{ℕ, ◌+◌, ◌*◌, ◌%◌, ◌<◌, ◌≤◌, true, false, ◌≡◌}
use Rattle.tariff.specs.Structs.{Date}
use Rattle.tariff.specs.Dates.{real, last_date, day_after, weekday}

-- R6: a date as one number, the year foremost (27 April 2026 is 20260427): later dates have larger numbers.
unfoldable pub written : Date → ℕ
written d = 10000 * d.year + 100 * d.month.0 + d.day

-- R6, R7: the day after d exists, is later, leaves no date in between, and falls on the next weekday.
pub record NextDay (d : Date) : Type 0 where
  pub is_real : real (day_after d) ≡ true
  pub is_later : written d < written (day_after d)
  pub is_next : (e : Date) → real e ≡ true → written d < written e → written (day_after d) ≤ written e
  pub follows_weekday : weekday (day_after d) ≡ (weekday d + 1) % 7

-- R6, R7: this holds of every date that exists but the last, which has no day after it.
abbrev pub RightDays : Type 0
RightDays = (d : Date) → real d ≡ true → last_date d ≡ false → NextDay d
