-- A giver that keeps the month's minimum does not fall below zero, and a taker that keeps the maximum does not rise far above it; so a bank in its
-- range stays there.
use Prim.Native.Nat.{ℕ, ◌*◌, ◌≤◌}
use mathlib.Core.Path.{◌≡◌}
use mathlib.Core.Bool.{true, false, ◌&&◌}
use native.Mathlib.Nat.{mul-le-mul}
use native.Mathlib.Omega.{arith}
use lib.IntN.{ℤ, pos, neg_ℤ, ◌+ℤ◌, ◌-ℤ◌}
use lib.Signed.{lt_z, le_z}
use Rattle.std.proofs.lemmas.Int.{ints}
use Rattle.tariff.specs.Amounts.{above, below, less, more, percent, positive_part, within}
use Rattle.tariff.specs.Limits.{above_maximum, below_minimum}
use Rattle.tariff.specs.Months.{maximum, minimum}
use Rattle.tariff.specs.Structs.{Dth, Month, Quantity, Units}
use Rattle.tariff.proofs.Forfeits.{left_between}
use Rattle.tariff.proofs.Percentages.{maximum_le}

-- what is left is not below p, so no more was given than there was
had_all : (z : ℤ) (q p : ℕ) → lt_z (z -ℤ pos q) (pos p) ≡ false → q ≤ positive_part z
unfolding positive_part
had_all z q p h = grind (arith, ints)

pub giver_stays : (low high : ℕ) (m : Month) (bcq : Dth) (bank : Units) (q : Quantity) → within low high bank ≡ true
    → below_minimum m bcq (less bank q) ≡ false → within low high (less bank q) ≡ true
unfolding within less below_minimum below
giver_stays low high m bcq bank q w h = left_between low high bank.0 q.0 (had_all bank.0 q.0 (percent (minimum m) bcq).0 h) w

between_still : (low high : ℕ) (z : ℤ) (q p : ℕ) → p ≤ high → le_z (neg_ℤ (pos low)) z && le_z z (pos high) ≡ true
    → lt_z (pos p) (z +ℤ pos q) ≡ false → le_z (neg_ℤ (pos low)) (z +ℤ pos q) && le_z (z +ℤ pos q) (pos high) ≡ true
between_still low high z q p f w h = grind (arith, ints)

most_maximum : (m : Month) (bcq : Dth) → bcq.0 ≤ 30000000 → (percent (maximum m) bcq).0 ≤ 102 * 30000000
unfolding percent
most_maximum m bcq b = mul-le-mul (maximum_le m) b

pub taker_stays : (low high : ℕ) (m : Month) (bcq : Dth) (bank : Units) (q : Quantity) → bcq.0 ≤ 30000000 → 102 * 30000000 ≤ high
    → within low high bank ≡ true → above_maximum m bcq (more bank q) ≡ false → within low high (more bank q) ≡ true
unfolding within more above_maximum above
taker_stays low high m bcq bank q b f w h =
    between_still low high bank.0 q.0 (percent (maximum m) bcq).0 (omega (arith, most_maximum m bcq b)) w h
