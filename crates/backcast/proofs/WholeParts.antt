-- The quotient of numerator and denominator is the greatest whole number not above their fraction.
use Prim.Native.Nat.{ℕ, suc, ◌*◌, ◌/◌, ◌≤◌}
use native.Mathlib.Nat.{div-lt_iff_lt-mul, div-mul-le_self, le-div_iff_mul-le, le_of_mul-le-mul_right, le_trans, mul_comm, zero-mul}
use native.Mathlib.Omega.{arith}
use mathlib.Core.Bool.{true, false, ◌&&◌, true≢false}
use mathlib.Core.Path.{◌≡◌, refl, sym, ap, ◌∙◌, subst}
use borrow.Author.Tests.{le-leb, leb-true, lt-ltb}
use lib.Dec.{leb}
use lib.IntN.{ℤ, pos, negsuc, nat_abs, ◌*ℤ◌}
use lib.Signed.{le_z, lt_z}
use lib.Ieee as Ieee
use lib.Ieee.{Float, nan, inf, fin}
use Rattle.tariff.proofs.Bools.{and_left, and_right}
use Rattle.tariff.specs.Bounds.{most_units}
use Rattle.backcast.specs.Answers.{is_quantity, whole_part}
use Rattle.backcast.specs.Doubles.{is_number, numerator, denominator}
use Rattle.backcast.specs.ExactCase.{IsWhole}
use Rattle.backcast.specs.GreatestWhole.{GreatestWhole}
use Rattle.backcast.proofs.Integers.{times_twice}
use Rattle.backcast.proofs.Orders.{le_z_times}
use Rattle.backcast.proofs.Values.{denominator_pos, le_value}

-- what a quantity of gas is: a number with a natural numerator, at most 10^9 times the denominator
pub record IsQuantity (x : Float) : Type 0 where
  pub is_number : is_number x ≡ true
  pub natural : numerator x ≡ pos (nat_abs (numerator x))
  pub most : nat_abs (numerator x) ≤ most_units * denominator x

pub quantity : (x : Float) → is_quantity x ≡ true → IsQuantity x
unfolding is_quantity
quantity x h =
    let low = and_left (is_number x && le_z (pos 0) (numerator x)) (le_z (numerator x) (pos (most_units * denominator x))) h in
    let high = and_right (is_number x && le_z (pos 0) (numerator x)) (le_z (numerator x) (pos (most_units * denominator x))) h in
    let n = natural (numerator x) (and_right (is_number x) (le_z (pos 0) (numerator x)) low) in
    record {
      is_number = and_left (is_number x) (le_z (pos 0) (numerator x)) low;
      natural = n;
      most = leb-true (nat_abs (numerator x)) (most_units * denominator x) (subst (λ (z : ℤ). le_z z (pos (most_units * denominator x)) ≡ true) n high);
    }
  where
    natural : (z : ℤ) → le_z (pos 0) z ≡ true → z ≡ pos (nat_abs z)
    natural (pos n) t = refl
    natural (negsuc n) t = absurd (true≢false (sym t))

-- ---- a number compared with a whole double
module _ (x y : Float) (n N : ℕ) (number : is_number x ≡ true) (whole : IsWhole y (pos n) N) where
  shared : numerator y *ℤ pos (denominator x) ≡ pos (n * denominator x) *ℤ pos (denominator y)
  shared =
      ap (λ (z : ℤ). z *ℤ pos (denominator x)) whole.value ∙ times_twice (pos n) (denominator y) (denominator x)
      ∙ ap (λ (k : ℕ). pos n *ℤ pos k) (mul_comm (denominator y) (denominator x)) ∙ sym (times_twice (pos n) (denominator x) (denominator y))

  pub not_below : Ieee.le y x ≡ le_z (pos (n * denominator x)) (numerator x)
  not_below =
      le_value y x whole.is_number number ∙ ap (λ (z : ℤ). le_z z (numerator x *ℤ pos (denominator y))) shared
      ∙ le_z_times (pos (n * denominator x)) (numerator x) (denominator y) (denominator_pos y)

  pub not_above_lem : Ieee.le x y ≡ le_z (numerator x) (pos (n * denominator x))
  not_above_lem =
      le_value x y number whole.is_number ∙ ap (le_z (numerator x *ℤ pos (denominator y))) shared
      ∙ le_z_times (numerator x) (pos (n * denominator x)) (denominator y) (denominator_pos y)

-- 0 and 10^9 as the code has them
abbrev pub least : Float
least = fin false 0 (pos 0)

abbrev pub largest : Float
largest = fin false 1953125 (pos 9)

least_whole : IsWhole least (pos 0) 0
unfolding is_number numerator denominator
least_whole = record { is_number = refl; value = refl; bounded = omega arith }

largest_whole : IsWhole largest (pos 1000000000) 1000000000
unfolding is_number numerator denominator
largest_whole = record { is_number = refl; value = refl; bounded = omega arith }

number_tests : (x : Float) → is_number x ≡ true → Ieee.le least x && Ieee.le x largest ≡ is_quantity x
unfolding is_quantity
number_tests x h =
    let low : Ieee.le least x ≡ le_z (pos 0) (numerator x)
    = not_below x least 0 0 h least_whole ∙ ap (λ (k : ℕ). le_z (pos k) (numerator x)) (zero-mul (denominator x)) in
    rw (low, not_above_lem x largest 1000000000 1000000000 h largest_whole, h)

pub quantity_is : (x : Float) → Ieee.le least x && Ieee.le x largest ≡ is_quantity x
quantity_is nan = unfold is_quantity is_number Ieee.le in refl
quantity_is (inf true) = unfold is_quantity is_number Ieee.le in refl
quantity_is (inf false) = unfold is_quantity is_number Ieee.le in refl
quantity_is (fin s m e) = number_tests (fin s m e) (unfold is_number in refl)

-- ---- the whole part
module _ (x : Float) (q : IsQuantity x) where
  -- a whole number is not above x where it is not above the quotient's numerator
  pub whole_test : (m : ℕ) → le_z (pos (m * denominator x)) (numerator x) ≡ leb (m * denominator x) (nat_abs (numerator x))
  whole_test m = ap (le_z (pos (m * denominator x))) q.natural

  pub greatest : GreatestWhole (whole_part x) x
  unfolding whole_part
  greatest =
      let n = nat_abs (numerator x) in
      let d = denominator x in
      record {
        is_number = q.is_number;
        not_above = whole_test (n / d) ∙ le-leb (n / d * d) n (div-mul-le_self n d);
        next_is_above = ap (λ (z : ℤ). lt_z z (pos (suc (n / d) * d))) q.natural ∙ lt-ltb n (suc (n / d) * d) ((div-lt_iff_lt-mul (denominator_pos x)).0 (omega arith));
        no_greater = λ m h. (le-div_iff_mul-le (denominator_pos x)).1 (leb-true (m * d) n (sym (whole_test m) ∙ h));
      }

  pub whole_le : whole_part x ≤ most_units
  unfolding whole_part
  whole_le = le_of_mul-le-mul_right (le_trans (div-mul-le_self (nat_abs (numerator x)) (denominator x)) q.most) (denominator_pos x)
