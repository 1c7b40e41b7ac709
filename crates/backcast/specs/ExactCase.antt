-- R93: of whole numbers that are not too large nothing is rounded, and the back-cast is that of the integers.
use Rattle.std.specs.Prelude.{ℕ, ◌≤◌, ℤ, pos, nat_abs, ◌+ℤ◌, ◌-ℤ◌, ◌*ℤ◌, true, cond, ◌&&◌, ◌≡◌, Float}
use Rattle.std.specs.Int.Signed.{le_z, lt_z}
use Rattle.tariff.specs.Bounds.{most_units}
use Rattle.backcast.specs.Vocabulary.{binary64, of_int}
use Rattle.backcast.specs.Structs.{BackCast, LoadCurve}
use Rattle.backcast.specs.Doubles.{is_number, numerator, denominator}
use Rattle.backcast.specs.Answers.{back_cast}

-- R93: the double x has the whole number z for its value, of a size of at most `most`.
pub record IsWhole (x : Float) (z : ℤ) (most : ℕ) : Type 0 where
  pub is_number : is_number x ≡ true
  pub value : numerator x ≡ z *ℤ pos (denominator x)
  pub bounded : nat_abs z ≤ most

-- R93: every whole number of such a size is the value of a double, so that something is said below of all of them.
abbrev pub WholeNumbersAreDoubles : Type 0
WholeNumbersAreDoubles = (z : ℤ) (most : ℕ) → nat_abs z ≤ most → most ≤ 100000000 → IsWhole (of_int binary64 z) z most

-- R93: the load over the integers: base, slope, turning temperature, temperature.
unfoldable pub exact_load : ℤ → ℤ → ℤ → ℤ → ℤ
exact_load base slope turning f = cond (lt_z f turning) (base +ℤ slope *ℤ (turning -ℤ f)) base

-- R93: an answer is exact for a load z: not refused, it is z; it is refused with 32 where z is not from 0 to 10^9, and not otherwise. As z is
-- never so large, that is where it is below 0.
pub record Exact (r : BackCast) (z : ℤ) : Type 0 where
  pub equal : r.number ≡ 0 → pos r.quantity.0 ≡ z
  pub refused_outside : r.number ≡ cond (le_z (pos 0) z && le_z z (pos most_units)) 0 32
  pub refused_below : r.number ≡ cond (lt_z z (pos 0)) 32 0

-- R93: a base load to 10^8, the other three to 10,000, of either sign.
abbrev pub WholeNumbersAreExact : Type 0
WholeNumbersAreExact =
    (curve : LoadCurve) (f : Float) (base slope turning at : ℤ) → IsWhole curve.base base 100000000 → IsWhole curve.slope slope 10000
    → IsWhole curve.turning turning 10000 → IsWhole f at 10000 → Exact (back_cast curve f) (exact_load base slope turning at)
