-- The calendar, worked out instead of looked up: each formula is compared with the table of the months, month by month.
use Prim.Native.Nat.{ℕ, zero, suc, ◌+◌, ◌*◌, ◌-◌, ◌/◌, ◌%◌, ◌≤◌}
use mathlib.Core.Path.{◌≡◌, refl, sym, ap, ◌∙◌}
use mathlib.Core.Bool.{Bool, true, false, cond, not, ◌&&◌, and_assoc}
use mathlib.Core.List.{List, [], ◌∷◌}
use native.Mathlib.Omega.{arith}
use lib.Dec.{eqb, ltb, leb}
use lib.ListN.{get_or, take}
use borrow.Author.Tests.{eqb-false, eqb-true, leb-true, ne_eqb, ltb-true}
use Rattle.std.proofs.lemmas.Grind.{common_steps}
use Rattle.std.specs.Ordering.{partial_lt}
use Rattle.tariff.specs.contracts.dates.DatePartialOrd.TheImpl.{partial_cmp-value}
use Rattle.tariff.specs.Dates.{before, leap, divides, lengths, month_length, real, same_date, total}
use Rattle.tariff.specs.MeasurementDays.{MonthExists}
use Rattle.tariff.specs.Months.{same_month}
use Rattle.tariff.specs.Structs.{Date, Month}
use Rattle.tariff.proofs.Ranges.{date_bounds}
use Rattle.tariff.proofs.Tables.{all_below, at_each, each, entry_le}
use Rattle.tariff.proofs.Results.{choice_le}

-- the lengths of the months, by whether the year is a leap year
abbrev pub months : Bool → List ℕ
months b = 31 ∷ cond b 29 28 ∷ 31 ∷ 30 ∷ 31 ∷ 30 ∷ 31 ∷ 31 ∷ 30 ∷ 31 ∷ 30 ∷ 31 ∷ []

pub lengths_are : (year : ℕ) → lengths year ≡ months (leap year)
unfolding lengths
lengths_are year = refl

-- ---- leap years of the century

alike : Bool → Bool → Bool
alike true b = b
alike false b = not b

alike_is : (a b : Bool) → alike a b ≡ true → a ≡ b
unfolding alike
alike_is true true h = refl
alike_is true false h = sym h
alike_is false true h = h
alike_is false false h = refl

fourth : ℕ → Bool
fourth i = alike (leap (2000 + i)) (eqb ((2000 + i) % 4) 0)

fourth_each : all_below fourth 100 ≡ true
unfolding fourth alike leap divides
fourth_each = refl

pub every_fourth : (y : ℕ) → 2000 ≤ y → y ≤ 2099 → leap y ≡ eqb (y % 4) 0
unfolding fourth
every_fourth y h l =
    let back : 2000 + (y - 2000) ≡ y = omega arith in
    rw back at (alike_is (leap (2000 + (y - 2000))) (eqb ((2000 + (y - 2000)) % 4) 0) (at_each fourth 100 fourth_each (y - 2000) (omega arith)))

-- ---- a month's length: 31 and 30 by turns, anew from August

other : (b : Bool) (i : ℕ) → (i ≡ 1 → ⊥) → get_or (months b) i 0 ≡ get_or (months false) i 0
other b zero h = refl
other b (suc zero) h = absurd (h refl)
other b (suc (suc i)) h = refl

turns : ℕ → Bool
turns m = cond (eqb m 0) true (cond (eqb m 2) true (eqb (30 + (m + m / 8) % 2) (get_or (months false) (m - 1) 0)))

length_by_turns : (year m : ℕ) → 1 ≤ m → m ≤ 12 → (m ≡ 2 → ⊥) → 30 + (m + m / 8) % 2 ≡ get_or (lengths year) (m - 1) 0
unfolding turns
length_by_turns year m l h n =
    eqb-true (30 + (m + m / 8) % 2) (get_or (months false) (m - 1) 0)
    (rw (ne_eqb m 0 (λ z. omega arith), ne_eqb m 2 n) at (at_each turns 13 refl m (omega arith)))
    ∙ sym (other (leap year) (m - 1) (λ z. n (omega arith)))
    ∙ ap (λ (xs : List ℕ). get_or xs (m - 1) 0) (sym (lengths_are year))

pub worked_out : (year : ℕ) (m : Month) → MonthExists year m → month_length year m ≡ cond (eqb m.0 2) (cond (leap year) 29 28) (30 + (m.0 + m.0 / 8) % 2)
unfolding month_length
worked_out year m x = go (eqb m.0 2) refl
  where
    go : (t : Bool) → eqb m.0 2 ≡ t → get_or (lengths year) (m.0 - 1) 0 ≡ cond t (cond (leap year) 29 28) (30 + (m.0 + m.0 / 8) % 2)
    go true e = rw (eqb-true m.0 2 e, lengths_are year)
    go false e = sym (length_by_turns year m.0 x.in_months.0 x.in_months.1 (eqb-false m.0 2 e))

-- ---- the days of the months before

counted : Bool → ℕ → Bool
counted b m = eqb ((367 * m - 362) / 12 - cond (ltb 2 m) (cond b 1 2) 0) (total (take (m - 1) (months b)))

counted_each : (b : Bool) → all_below (counted b) 13 ≡ true
unfolding counted total
counted_each true = refl
counted_each false = refl

pub days_before : (year m : ℕ) → m ≤ 12 → (367 * m - 362) / 12 - cond (ltb 2 m) (cond (leap year) 1 2) 0 ≡ total (take (m - 1) (lengths year))
unfolding counted
days_before year m h =
    eqb-true _ _ (at_each (counted (leap year)) 13 (counted_each (leap year)) m (omega arith))
    ∙ ap (λ (xs : List ℕ). total (take (m - 1) xs)) (sym (lengths_are year))

-- February lacks one or two days, which are never more than the days before a month behind it
pub short_le : (b : Bool) (m lack short : ℕ) → lack ≡ cond b 1 2 → short ≡ cond (ltb 2 m) lack 0 → short ≤ (367 * m - 362) / 12
short_le b m lack short e f = rw (f, e) (go (ltb 2 m) refl)
  where
    go : (t : Bool) → ltb 2 m ≡ t → cond t (cond b 1 2) 0 ≤ (367 * m - 362) / 12
    go true h = omega (arith, ltb-true 2 m h, choice_le 2 b 1 2 (omega arith) (omega arith))
    go false h = omega arith

-- ---- no month has more than 31 days

each_length : (b : Bool) → each (λ n. leb n 31) (months b) ≡ true
each_length true = refl
each_length false = refl

pub month_length_le : (year : ℕ) (m : Month) → month_length year m ≤ 31
unfolding month_length
month_length_le year m = rw (lengths_are year) (entry_le 31 (months (leap year)) (each_length (leap year)) (m.0 - 1))

-- ---- and none fewer than 28

shortest : Bool → ℕ → Bool
shortest b i = leb 28 (get_or (months b) i 0)

shortest_each : (b : Bool) → all_below (shortest b) 12 ≡ true
unfolding shortest
shortest_each true = refl
shortest_each false = refl

pub month_length_ge : (year : ℕ) (m : Month) → 1 ≤ m.0 → m.0 ≤ 12 → 28 ≤ month_length year m
unfolding month_length shortest
month_length_ge year m l h = rw (lengths_are year) (leb-true 28 _ (at_each (shortest (leap year)) 12 (shortest_each (leap year)) (m.0 - 1) (omega arith)))

-- ---- a date that exists

pub real_exists : (d : Date) → real d ≡ true → MonthExists d.year d.month
real_exists d r = let b = date_bounds d r in record { in_years = b.year; in_months = b.month }

pub real_day : (d : Date) → real d ≡ true → (1 ≤ d.day) × (d.day ≤ 31)
real_day d r = let b = date_bounds d r in (b.day.0, omega (arith, month_length_le d.year d.month))

-- ---- `==` and `<` of dates, which are derived, are the definitions: a caller's proof cites these of what the call ensures

pub same_derived : (a b : Date) → eqb a.year b.year && (eqb a.month.0 b.month.0 && eqb a.day b.day) ≡ same_date a b
unfolding same_date same_month
same_derived a b = sym (and_assoc (eqb a.year b.year) (eqb a.month.0 b.month.0) (eqb a.day b.day))

pub before_derived : (a b : Date) → partial_lt partial_cmp-value.it a b ≡ before a b
unfolding before
before_derived a b = grind (arith, common_steps)
