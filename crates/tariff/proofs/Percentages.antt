-- No percentage of a month is above 102: each table is compared entry by entry.
use Prim.Native.Nat.{ℕ, ◌*◌, ◌≤◌}
use native.Mathlib.Nat.{mul-le-mul}
use Rattle.tariff.specs.Months.{minimum, maximum, mmbq, withdrawal_maximum, withdrawal_minimum}
use Rattle.tariff.specs.Structs.{Month}
use Rattle.tariff.proofs.Tables.{entry_le}

pub minimum_le : (m : Month) → minimum m ≤ 102
unfolding minimum
minimum_le m = search entry_le

pub maximum_le : (m : Month) → maximum m ≤ 102
unfolding maximum
maximum_le m = search entry_le

pub mmbq_le : (m : Month) → mmbq m ≤ 102
unfolding mmbq
mmbq_le m = search entry_le

pub withdrawal_maximum_le : (m : Month) → withdrawal_maximum m ≤ 102
unfolding withdrawal_maximum
withdrawal_maximum_le m = search entry_le

pub withdrawal_minimum_le : (m : Month) → withdrawal_minimum m ≤ 102
unfolding withdrawal_minimum
withdrawal_minimum_le m = search entry_le

-- a percentage of a capacity
pub capacity_percent_le : (p c : ℕ) → p ≤ 102 → c ≤ 30000000 → p * c ≤ 3060000000
capacity_percent_le p c h k = mul-le-mul h k
