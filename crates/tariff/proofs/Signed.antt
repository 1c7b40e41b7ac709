-- Signed numbers and their sizes. std's tactics find each by the cases of its signs.
use Prim.Native.Nat.{ℕ, ◌+◌, ◌/◌, ◌≤◌, max}
use mathlib.Core.Path.{◌≡◌}
use mathlib.Core.Bool.{true, ◌&&◌}
use native.Mathlib.Omega.{arith}
use lib.IntN.{ℤ, pos, ◌+ℤ◌, ◌-ℤ◌, neg_ℤ, nat_abs}
use lib.Signed.{le_z, quot_z}
use Rattle.std.proofs.lemmas.Int.{ints, to_z-of_z, to_z_pos, fits_signed_from_abs}
-- std's law of a product, under a name like those below
pub use Rattle.std.proofs.lemmas.Int.{unsigned_abs-mul as size_product}

-- ---- sizes

pub size_neg : (a : ℤ) → nat_abs (neg_ℤ a) ≡ nat_abs a
size_neg a = omega (arith, ints)

pub size_sum : (a b : ℤ) → nat_abs (a +ℤ b) ≤ nat_abs a + nat_abs b
size_sum a b = omega (arith, ints)

pub size_difference : (a b : ℤ) → nat_abs (a -ℤ b) ≤ nat_abs a + nat_abs b
size_difference a b = omega (arith, ints)

-- the quotient by a natural number, without its sign
pub size_quotient_is : (a : ℤ) (n : ℕ) → nat_abs (quot_z a (pos n)) ≡ nat_abs a / n
size_quotient_is a n = grind (arith, ints)

-- two natural numbers differ by no more than the larger
pub size_naturals : (a b : ℕ) → nat_abs (pos a -ℤ pos b) ≤ max a b
size_naturals a b = omega (arith, ints)

-- a number from −low to high
pub size_between : (low high : ℕ) (z : ℤ) → le_z (neg_ℤ (pos low)) z && le_z z (pos high) ≡ true → low ≤ high → nat_abs z ≤ high
size_between low high z h l = grind (arith, ints)

-- what the machine makes of signed numbers: its sums are the numbers', and fit where the sizes do
pub ruleset sums = (to_z-of_z, to_z_pos, fits_signed_from_abs, size_sum, size_difference, size_neg)
