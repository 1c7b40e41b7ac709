-- The day after a real date is the right one, by the three ways on: within the month, to the next month, to the next year.
use Prim.Native.Nat.{ℕ, ◌+◌, ◌*◌, ◌-◌, ◌/◌, ◌%◌, ◌≤◌, ◌<◌}
use mathlib.Core.Path.{◌≡◌, refl, ◌∙◌}
use mathlib.Core.Bool.{Bool, true, false, cond, ◌&&◌}
use native.Mathlib.Omega.{arith}
use lib.Dec.{eqb}
use lib.ListN.{get_or, take}
use borrow.Author.Tests.{eqb-true, eqb-false, eq-eqb, ne_eqb, le-leb}
use Rattle.tariff.specs.Months.{same_month, december}
use Rattle.tariff.specs.Dates.{leap, lengths, month_length, real, is_on, last_of_month, last_date, day_after, total, day_number, weekday}
use Rattle.tariff.specs.Calendar.{written, RightDays}
use Rattle.tariff.specs.Structs.{Date, Month}
use Rattle.tariff.proofs.Bools.{and_fails}
use Rattle.tariff.proofs.Tables.{all_below, at_each}
use Rattle.tariff.proofs.Ranges.{date_bounds}
use Rattle.tariff.proofs.Calendar.{months, lengths_are, every_fourth, month_length_ge, month_length_le}

abbrev date : ℕ → ℕ → ℕ → Date
date y m k = record { year = y; month = record { 0 = m }; day = k }

real_from : (y m k : ℕ) → 2000 ≤ y → y ≤ 2099 → 1 ≤ m → m ≤ 12 → 1 ≤ k → k ≤ month_length y (record { 0 = m }) → real (date y m k) ≡ true
unfolding real
real_from y m k h1 h2 h3 h4 h5 h6 = rw (le-leb 1 m h3, le-leb m 12 h4, le-leb 2000 y h1, le-leb y 2099 h2, le-leb 1 k h5, le-leb k (month_length y (record { 0 = m })) h6)

-- ---- sums of month lengths

grows : Bool → ℕ → Bool
grows b m = cond (eqb m 0) true (eqb (total (take m (months b))) (total (take (m - 1) (months b)) + get_or (months b) (m - 1) 0))

grows_each : (b : Bool) → all_below (grows b) 13 ≡ true
unfolding grows total
grows_each true = refl
grows_each false = refl

before_next : (y m : ℕ) → 1 ≤ m → m ≤ 12 → total (take m (lengths y)) ≡ total (take (m - 1) (lengths y)) + get_or (lengths y) (m - 1) 0
unfolding grows
before_next y m l h =
    rw (lengths_are y)
    (eqb-true _ _ (rw (ne_eqb m 0 (λ z. omega arith)) at (at_each (grows (leap y)) 13 (grows_each (leap y)) m (omega arith))))

-- ---- December has 31 days

december_length : (y : ℕ) (m : Month) → m.0 ≡ 12 → month_length y m ≡ 31
unfolding month_length
december_length y m h = rw (h, lengths_are y)

same_length : (y z : ℕ) (m n : Month) → y ≡ z → m.0 ≡ n.0 → month_length y m ≡ month_length z n
unfolding month_length
same_length y z m n p q = rw (p, q)

-- ---- a year more

eleven_months : (b : Bool) → total (take 11 (months b)) ≡ cond b 335 334
unfolding total
eleven_months true = refl
eleven_months false = refl

year_grows : (y : ℕ) → 2000 ≤ y → y ≤ 2099 → 365 * (y + 1 - 2000) + (y + 1 - 2000 + 3) / 4 ≡ 365 * (y - 2000) + (y - 2000 + 3) / 4 + total (take 11 (lengths y)) + 31
year_grows y h l =
    let same : y % 4 ≡ (y - 2000) % 4 = omega arith in
    rw (lengths_are y, eleven_months (leap y), every_fourth y h l, same) (go (eqb ((y - 2000) % 4) 0) refl)
  where
    go : (t : Bool) → eqb ((y - 2000) % 4) 0 ≡ t → 365 * (y + 1 - 2000) + (y + 1 - 2000 + 3) / 4 ≡ 365 * (y - 2000) + (y - 2000 + 3) / 4 + cond t 335 334 + 31
    go true e = omega (arith, eqb-true ((y - 2000) % 4) 0 e)
    go false e = omega (arith, eqb-false ((y - 2000) % 4) 0 e)

-- ---- the three ways on

-- of a date and the one after it
pub record Follows (d n : Date) : Type 0 where
  is_real : real n ≡ true
  is_later : written d < written n
  is_next : (e : Date) → real e ≡ true → written d < written e → written n ≤ written e
  counts : day_number n ≡ day_number d + 1

module _ (d : Date) (r : real d ≡ true) where
  abbrev y : ℕ
  y = d.year

  abbrev m : ℕ
  m = d.month.0

  abbrev k : ℕ
  k = d.day

  abbrev last : ℕ
  last = month_length d.year d.month

  -- within the month
  same_month_lem : (k ≡ last → ⊥) → Follows d (date y m (k + 1))
  unfolding written day_number
  same_month_lem n =
      let b = date_bounds d r in
      record {
        is_real = real_from y m (k + 1) b.year.0 b.year.1 b.month.0 b.month.1 (omega arith) (omega arith);
        is_later = omega arith;
        is_next = λ e q h. omega arith;
        counts = omega arith;
      }

  -- to the first of the next month
  next_month : k ≡ last → m ≤ 11 → Follows d (date y (m + 1) 1)
  unfolding written day_number month_length
  next_month e h =
      let b = date_bounds d r in
      let back : m + 1 - 1 ≡ m = omega arith in
      record {
        is_real = real_from y (m + 1) 1 b.year.0 b.year.1 (omega arith) (omega arith) (omega arith) (omega (arith, month_length_ge y (record { 0 = m + 1 }) (omega arith) (omega arith)));
        is_later = omega (arith, month_length_le y d.month);
        is_next = λ f q l. no_later f q l (eqb f.year y) (eqb f.month.0 m) refl refl;
        counts = rw back (omega (arith, before_next y m b.month.0 b.month.1));
      }
    where
      no_later : (f : Date) → real f ≡ true → 10000 * y + 100 * m + k < 10000 * f.year + 100 * f.month.0 + f.day → (t u : Bool) → eqb f.year y ≡ t → eqb f.month.0 m ≡ u
          → 10000 * y + 100 * (m + 1) + 1 ≤ 10000 * f.year + 100 * f.month.0 + f.day
      no_later f q l true true p s =
          let b = date_bounds f q in
          omega (arith, eqb-true f.year y p, eqb-true f.month.0 m s, same_length f.year y f.month d.month (eqb-true f.year y p) (eqb-true f.month.0 m s))
      no_later f q l true false p s =
          let b = date_bounds f q in
          omega (arith, eqb-true f.year y p, eqb-false f.month.0 m s, month_length_le f.year f.month, date_bounds d r)
      no_later f q l false u p s =
          let b = date_bounds f q in
          omega (arith, eqb-false f.year y p, month_length_le f.year f.month, date_bounds d r)

  -- to the first of January
  next_year : k ≡ last → m ≡ 12 → y ≤ 2098 → Follows d (date (y + 1) 1 1)
  unfolding written day_number total
  next_year e h l =
      let b = date_bounds d r in
      let end = december_length y d.month h in
      record {
        is_real = real_from (y + 1) 1 1 (omega arith) (omega arith) (omega arith) (omega arith) (omega arith) (omega (arith, month_length_ge (y + 1) (record { 0 = 1 }) (omega arith) (omega arith)));
        is_later = omega arith;
        is_next = λ f q n. omega (arith, date_bounds f q, month_length_le f.year f.month);
        counts = rw h (omega (arith, year_grows y b.year.0 b.year.1));
      }

  follows : last_date d ≡ false → Follows d (day_after d)
  unfolding day_after last_of_month same_month december last_date is_on
  follows n = go (eqb k last) (eqb m 12) refl refl
    where
      go : (t u : Bool) → eqb k last ≡ t → eqb m 12 ≡ u → Follows d (day_after d)
      go false u p q = rw p (same_month_lem (eqb-false k last p))
      go true false p q =
          let b = date_bounds d r in
          let next : m % 12 + 1 ≡ m + 1 = omega (arith, eqb-false m 12 q) in
          rw (p, q, next) (next_month (eqb-true k last p) (omega (arith, eqb-false m 12 q)))
      go true true p q =
          let b = date_bounds d r in
          let twelfth = eqb-true m 12 q in
          let end : k ≡ 31 = eqb-true k last p ∙ december_length y d.month twelfth in
          let early : eqb y 2099 ≡ false = and_fails (eqb y 2099) (eqb m 12 && eqb k 31) n (rw (q, eq-eqb k 31 end)) in
          let first : m % 12 + 1 ≡ 1 = omega (arith, twelfth) in
          rw (p, q, first) (next_year (eqb-true k last p) twelfth (omega (arith, eqb-false y 2099 early)))

pub right_days : RightDays
unfolding weekday
right_days d r n =
    let f = follows d r n in
    record {
      is_real = f.is_real;
      is_later = f.is_later;
      is_next = f.is_next;
      follows_weekday = rw f.counts (omega arith);
    }
