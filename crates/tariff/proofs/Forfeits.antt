-- A forfeit is a part of what a bank has above zero, so a bank in its range stays there, whatever part is taken.
use Prim.Native.Nat.{ℕ, ◌≤◌}
use mathlib.Core.Path.{◌≡◌}
use mathlib.Core.Bool.{Bool, true, ◌&&◌}
use native.Mathlib.Omega.{arith}
use lib.IntN.{ℤ, pos, neg_ℤ, ◌-ℤ◌}
use lib.Signed.{le_z}
use Rattle.std.proofs.lemmas.Int.{ints}
use Rattle.tariff.specs.Amounts.{inward, less, percent, positive_part, within}
use Rattle.tariff.specs.Closing.{excess_over, forfeit_of, forfeit_under}
use Rattle.tariff.specs.Months.{january, march, same_month}
use Rattle.tariff.specs.Structs.{Dth, Month, Quantity, Units}
use Rattle.tariff.proofs.Results.{choice_le, part_le}

-- ---- how much it is at most

above_part : (z : ℤ) (q : ℕ) → positive_part (z -ℤ pos q) ≤ positive_part z
unfolding positive_part
above_part z q = grind (arith, ints)

excess_part : (bank : Units) (q : Quantity) → (excess_over bank q).0 ≤ positive_part bank.0
unfolding excess_over inward less
excess_part bank q = above_part bank.0 q.0

forfeit_part : (m : Month) (bcq : Dth) (bank : Units) → (forfeit_of m bcq bank).0 ≤ positive_part bank.0
unfolding forfeit_of
forfeit_part m bcq bank =
    choice_le (positive_part bank.0) (same_month m january) _ _ (excess_part bank (percent 65 bcq))
    (choice_le (positive_part bank.0) (same_month m march) _ 0 (excess_part bank (percent 25 bcq)) (omega arith))

-- ---- what is left

pub left_between : (low high : ℕ) (z : ℤ) (f : ℕ) → f ≤ positive_part z → le_z (neg_ℤ (pos low)) z && le_z z (pos high) ≡ true
    → le_z (neg_ℤ (pos low)) (z -ℤ pos f) && le_z (z -ℤ pos f) (pos high) ≡ true
unfolding positive_part
left_between low high z f p h = grind (arith, ints)

pub forfeit_stays : (low high : ℕ) (new : Bool) (confiscated : Quantity) (m : Month) (bcq : Dth) (bank : Units) → within low high bank ≡ true
    → within low high (less bank (forfeit_under new confiscated (forfeit_of m bcq bank))) ≡ true
unfolding within less
forfeit_stays low high new confiscated m bcq bank h =
    left_between low high bank.0 (forfeit_under new confiscated (forfeit_of m bcq bank)).0 (omega (arith, part_le new confiscated (forfeit_of m bcq bank), forfeit_part m bcq bank)) h
