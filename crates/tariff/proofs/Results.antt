-- How large what the definitions give can be: each bound follows from the bounds of the parts, case by case.
use Prim.Native.Nat.{ℕ, ◌-◌, ◌≤◌, min}
use mathlib.Core.Bool.{Bool, true, false, cond, not, ◌&&◌}
use native.Mathlib.Omega.{arith}
use native.Mathlib.Nat.{mul-le-mul}
use lib.IntN.{pos, ◌-ℤ◌, ◌*ℤ◌, nat_abs}
use Rattle.tariff.specs.Amounts.{size, opposite, percent}
use Rattle.tariff.specs.Months.{same_month, january, march, winter}
use Rattle.tariff.specs.Delivery.{retained}
use Rattle.tariff.specs.Closing.{carry_of, forfeit_of, forfeit_under}
use Rattle.tariff.specs.Structs.{Dth, Month, Quantity, Units}
use Rattle.tariff.proofs.Signed.{size_naturals, size_product, size_quotient_is}
use Rattle.tariff.proofs.Sizes.{excess_le, size_opposite}

-- a choice between two numbers that are both at most n
pub choice_le : (n : ℕ) (t : Bool) (x y : ℕ) → x ≤ n → y ≤ n → cond t x y ≤ n
choice_le n true x y h k = h
choice_le n false x y h k = k

-- ---- deliveries

pub retained_le : (retainage : ℕ) (delivered back_cast : Quantity) → delivered.0 ≤ 1000000000 → back_cast.0 ≤ 1000000000 → size (retained retainage delivered back_cast) ≤ 1000000000
unfolding retained size
retained_le retainage delivered back_cast h l =
    let difference = pos delivered.0 -ℤ pos back_cast.0 in
    let product = difference *ℤ pos (10000 - retainage) in
    let far : nat_abs difference ≤ 1000000000 = omega (arith, size_naturals delivered.0 back_cast.0) in
    let keep : 10000 - retainage ≤ 10000 = omega arith in
    omega (arith, size_quotient_is product 10000, size_product difference (pos (10000 - retainage)), mul-le-mul far keep)

-- ---- closings

pub carry_le : (m : Month) (limit : Quantity) (net : Units) → (carry_of m limit net).0 ≤ size net
unfolding carry_of
carry_le m limit net =
    choice_le (size net) (winter m && not (same_month m march)) _ 0
    (omega (arith, excess_le (opposite net) limit, size_opposite net))
    (omega arith)

pub forfeit_le : (m : Month) (bcq : Dth) (bank : Units) → (forfeit_of m bcq bank).0 ≤ size bank
unfolding forfeit_of
forfeit_le m bcq bank =
    choice_le (size bank) (same_month m january) _ _ (excess_le bank (percent 65 bcq))
    (choice_le (size bank) (same_month m march) _ 0 (excess_le bank (percent 25 bcq)) (omega arith))

pub part_le : (new : Bool) (confiscated excess : Quantity) → (forfeit_under new confiscated excess).0 ≤ excess.0
unfolding forfeit_under
part_le new confiscated excess = choice_le excess.0 new (min confiscated.0 excess.0) excess.0 (omega arith) (omega arith)
