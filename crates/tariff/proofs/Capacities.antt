-- Terms in range keep each factor of a capacity small.
use Rattle.std.proofs.Common.{ℕ, ◌*◌, ◌≤◌, ◌≡◌, true, arith}
use native.Mathlib.Nat.{mul-le-mul}
use Rattle.tariff.specs.Terms.{terms_in_range}
use Rattle.tariff.specs.Structs.{Terms}
use Rattle.tariff.proofs.Ranges.{terms_bounds, mddq_le, bcq_le}

module _ (t : Terms) (h : terms_in_range t ≡ true) where
  pub blocks_le : (k : ℕ) → k ≤ 100 → 3000 * k * t.no_notice.0 ≤ 300000 * 10000000
  blocks_le k l = let b = terms_bounds t h in let blocks : 3000 * k ≤ 300000 = omega arith in mul-le-mul blocks b.no_notice.1

  pub stored_le : (n : ℕ) → n ≤ 300000 → n * t.storage.0 ≤ 300000 * 1000000000
  stored_le n l = let b = terms_bounds t h in let stored : t.storage.0 ≤ 1000000000 = omega arith in mul-le-mul l stored

pub ruleset mddq_fits = (blocks_le, mddq_le)

pub ruleset bcq_fits = (stored_le, bcq_le)
