-- What a passed range check tells, as bounds on natural numbers, and what follows for the capacities.
use Prim.Native.Nat.{ℕ, ◌*◌, ◌/◌, ◌≤◌}
use mathlib.Core.Path.{◌≡◌}
use mathlib.Core.Bool.{true}
use native.Mathlib.Omega.{arith}
use native.Mathlib.Nat.{mul-le-mul_left, mul_comm, mul_assoc, div-le_of_le-mul}
use borrow.Author.Tests.{leb-true}
use Rattle.tariff.specs.Terms.{terms_in_range, mddq_of, bcq_of}
use Rattle.tariff.specs.Dates.{real, month_length}
use Rattle.tariff.specs.Structs.{Date, Dth, Terms}
use Rattle.tariff.proofs.Bools.{parts}

pub record TermsBounds (t : Terms) : Type 0 where
  pub no_notice : (1 ≤ t.no_notice.0) × (t.no_notice.0 ≤ 10000000)
  pub design_day : (t.no_notice.0 ≤ t.design_day.0) × (t.design_day.0 ≤ 100000000)
  pub storage : (t.no_notice.0 ≤ t.storage.0) × (t.storage.0 ≤ 100 * t.no_notice.0)
  pub retainage : t.retainage ≤ 9999
  pub rates : (t.demand_rate ≤ 100000) × (t.commodity_rate ≤ 100000)

pub terms_bounds : (t : Terms) → terms_in_range t ≡ true → TermsBounds t
unfolding terms_in_range
terms_bounds t h =
    record {
      no_notice = (leb-true 1 t.no_notice.0 (search parts), leb-true t.no_notice.0 10000000 (search parts));
      design_day =
          (leb-true t.no_notice.0 t.design_day.0 (search parts), leb-true t.design_day.0 100000000 (search parts));
      storage =
          (leb-true t.no_notice.0 t.storage.0 (search parts), leb-true t.storage.0 (100 * t.no_notice.0) (search parts));
      retainage = leb-true t.retainage 9999 (search parts);
      rates = (leb-true t.demand_rate 100000 (search parts), leb-true t.commodity_rate 100000 (search parts));
    }

pub record DateBounds (d : Date) : Type 0 where
  pub year : (2000 ≤ d.year) × (d.year ≤ 2099)
  pub month : (1 ≤ d.month.0) × (d.month.0 ≤ 12)
  pub day : (1 ≤ d.day) × (d.day ≤ month_length d.year d.month)

pub date_bounds : (d : Date) → real d ≡ true → DateBounds d
unfolding real
date_bounds d h =
    record {
      year = (leb-true 2000 d.year (search parts), leb-true d.year 2099 (search parts));
      month = (leb-true 1 d.month.0 (search parts), leb-true d.month.0 12 (search parts));
      day = (leb-true 1 d.day (search parts), leb-true d.day (month_length d.year d.month) (search parts));
    }

-- a quotient of a product: a × b / c ≤ a × n where b ≤ n × c
quotient_le : (a b c n : ℕ) → b ≤ n * c → a * b / c ≤ a * n
quotient_le a b c n h = div-le_of_le-mul c (rw (← mul_comm (a * n) c, mul_assoc a n c) (mul-le-mul_left a h))

pub mddq_le : (t : Terms) (k : ℕ) → terms_in_range t ≡ true → k ≤ 100 → (mddq_of t k).0 ≤ 300000
unfolding mddq_of
mddq_le t k h l =
    let b = terms_bounds t h in
    omega (arith, quotient_le (3000 * k) t.no_notice.0 t.design_day.0 1 (omega arith))

pub bcq_le : (t : Terms) (mddq : Dth) → terms_in_range t ≡ true → mddq.0 ≤ 300000 → (bcq_of t mddq).0 ≤ 30000000
unfolding bcq_of
bcq_le t mddq h l =
    let b = terms_bounds t h in
    omega (arith, quotient_le mddq.0 t.storage.0 t.no_notice.0 100 (omega arith))
