-- A number is found between two whole numbers, low not above it and high + 1 above it, by halving what lies between.
use Prim.Native.Nat.{ℕ, ◌+◌, ◌-◌, ◌*◌, ◌/◌, ◌≤◌, ◌<◌}
use native.Mathlib.Nat.{div-eq_of_lt-le}
use native.Mathlib.Omega.{arith}
use mathlib.Core.Bool.{true, false}
use mathlib.Core.Path.{◌≡◌, ◌∙◌, sym, subst}
use borrow.Author.Tests.{leb-false, leb-true}
use lib.Dec.{leb}
use lib.IntN.{nat_abs, pos}
use lib.Ieee as Ieee
use lib.Ieee.{Float, binary64}
use Rattle.backcast.specs.Answers.{is_quantity, whole_part}
use Rattle.backcast.specs.Doubles.{numerator, denominator}
use Rattle.backcast.proofs.Values.{denominator_pos}
use Rattle.backcast.proofs.WholeDoubles.{integer}
use Rattle.backcast.proofs.WholeParts.{not_below, quantity, whole_test}

-- what the loop keeps
pub record Between (x : Float) (low high : ℕ) : Type 0 where
  pub ordered : low ≤ high
  pub most : high ≤ 1000000000
  pub not_above : low * denominator x ≤ nat_abs (numerator x)
  pub next_is_above : nat_abs (numerator x) < (high + 1) * denominator x

module _ (x : Float) (is : is_quantity x ≡ true) where
  pub at_first : Between x 0 1000000000
  at_first =
      let q = quantity x is in
      record { ordered = omega arith; most = omega arith; not_above = omega arith; next_is_above = omega (arith, q.most, denominator_pos x) }

  -- the code's test of a whole number tells on which side of x it lies
  test : (m : ℕ) → m ≤ 1000000000 → Ieee.le (Ieee.of_int binary64 (pos m)) x ≡ leb (m * denominator x) (nat_abs (numerator x))
  test m h =
      let q = quantity x is in
      not_below x (Ieee.of_int binary64 (pos m)) m m q.is_number (integer (pos m) (omega arith)) ∙ whole_test x q m

  module _ (low high middle : ℕ) (b : Between x low high) (l : low < high) (e : middle ≡ high - (high - low) / 2) where
    pub upper_half : Ieee.le (Ieee.of_int binary64 (pos middle)) x ≡ true → Between x middle high
    upper_half t =
        let o = b.ordered in
        let m = b.most in
        record {
          ordered = omega arith;
          most = b.most;
          not_above = leb-true (middle * denominator x) (nat_abs (numerator x)) (sym (test middle (omega arith)) ∙ t);
          next_is_above = b.next_is_above;
        }

    pub lower_half : Ieee.le (Ieee.of_int binary64 (pos middle)) x ≡ false → Between x low (middle - 1)
    lower_half f =
        let o = b.ordered in
        let m = b.most in
        let up : middle ≡ middle - 1 + 1 = omega arith in
        record {
          ordered = omega arith;
          most = omega arith;
          not_above = b.not_above;
          next_is_above =
              subst (λ (k : ℕ). nat_abs (numerator x) < k * denominator x) up
              (leb-false (middle * denominator x) (nat_abs (numerator x)) (sym (test middle (omega arith)) ∙ f));
        }

-- nothing is left between them
pub met : (x : Float) (low high : ℕ) → Between x low high → high ≤ low → low ≡ whole_part x
unfolding whole_part
met x low high b h =
    let o = b.ordered in
    let e : high ≡ low = omega arith in
    sym (div-eq_of_lt-le (denominator x) b.not_above (subst (λ (k : ℕ). nat_abs (numerator x) < (k + 1) * denominator x) e b.next_is_above))
