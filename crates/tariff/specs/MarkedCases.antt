-- R67: cases worked out in advance, of the definitions themselves.
-- case3 and case5 are stated of the tests that decide numbers 28 and 25.
use Rattle.std.specs.Prelude.{ℕ, pos, negsuc, neg_ℤ, true, false, [], ◌≡◌}
use Rattle.tariff.specs.Structs.{Dth, Prices, Quantity, Step, Terms, Units}
use Rattle.tariff.specs.Months.{february, march, april}
use Rattle.tariff.specs.Holidays.{measurement_day}
use Rattle.tariff.specs.Terms.{terms_from, terms_in_range, capacity_of}
use Rattle.tariff.specs.Enrol.{stays_on_fbs, opening_too_high}
use Rattle.tariff.specs.Delivery.{retained, breaks_v1, share_of}
use Rattle.tariff.specs.Steps.{step_of, measured}
use Rattle.tariff.specs.Closing.{cash_of, carry_of}
use Rattle.tariff.specs.Bill.{cash_in_charge}

-- R26, R67: the terms of all examples, at no rates.
abbrev pub marked_terms : Terms
marked_terms = terms_from 120000 480000 5000400 150 0 0

-- R67: a number as Dth, as units moved, and as units in bank.
abbrev pub dth : ℕ → Dth
dth n = record { 0 = n }

abbrev pub quantity : ℕ → Quantity
quantity n = record { 0 = n }

abbrev pub bank : ℕ → Units
bank n = record { 0 = pos n }

-- R67: −n units.
abbrev pub overdrawn : ℕ → Units
overdrawn n = record { 0 = neg_ℤ (pos n) }

-- R67: a step k with no run begun.
abbrev pub at_step : ℕ → Step
at_step k = record { k = k; pending = k; over = 0; under = 0 }

-- R67: prices at which H + E is above W.
abbrev pub marked_prices : Prices
marked_prices = record { inventory = 3000; highest = 3000; lowest = 0; pipeline = 100 }

-- R67: each case names the rule that it is about.
pub record MarkedCases : Type 0 where
  -- R25, R26: an MDQ of 4,200, its step, MDDQ and BCQ.
  pub header : (terms_in_range marked_terms ≡ true) × (step_of (dth 4200) ≡ 2) × (capacity_of marked_terms 2 ≡ record { mddq = dth 1500; bcq = dth 62505 })
  -- R31: a difference either way, and differences so small that nothing is left of them.
  pub case1 :
      (retained 150 (quantity 1000) (quantity 0) ≡ record { 0 = pos 985 })
      × (retained 150 (quantity 1) (quantity 0) ≡ record { 0 = pos 0 })
      × (retained 150 (quantity 0) (quantity 1) ≡ record { 0 = pos 0 })
      × (retained 150 (quantity 0) (quantity 1001) ≡ record { 0 = negsuc 984 })
  -- R32: the largest injection of a day in April, and a unit more.
  pub case2 : (breaks_v1 april (dth 62505) (bank 37503) ≡ false) × (breaks_v1 april (dth 62505) (bank 37504) ≡ true)
  -- R29: the largest opening bank, and a unit more.
  pub case3 : (opening_too_high (quantity 1562625) (dth 62505) ≡ false) × (opening_too_high (quantity 1562626) (dth 62505) ≡ true)
  -- R33: the least bank that opens the whole MDDQ, and a unit less, where the back-cast is 0.
  pub case4 : (share_of (bank 1875150) (dth 62505) (quantity 0) (dth 4200) ≡ 100) × (share_of (bank 1875149) (dth 62505) (quantity 0) (dth 4200) ≡ 80)
  -- R28: the two sizes at which the answer turns, and a Dth less than each.
  pub case5 :
      (stays_on_fbs false true (dth 999) ≡ true)
      × (stays_on_fbs false true (dth 1000) ≡ false)
      × (stays_on_fbs false false (dth 5999) ≡ true)
      × (stays_on_fbs false false (dth 6000) ≡ false)
  -- R39: from step 2, 500 beyond the upper edge and a Dth less; 500 beyond the lower edge, and that edge itself.
  pub case6 :
      ((measured (at_step 2) (dth 6500)).pending ≡ 3)
      × ((measured (at_step 2) (dth 6499)).pending ≡ 2)
      × ((measured (at_step 2) (dth 2500)).pending ≡ 1)
      × ((measured (at_step 2) (dth 3000)).pending ≡ 2)
  -- R52: an overdraft of a unit in April, whose minimum is 0.
  pub case7 : cash_of april false (dth 62505) (overdrawn 1) ≡ bank 1
  -- R54: the charge for a cash-in of 1,000 units.
  pub case8 : cash_in_charge marked_prices (quantity 1000) ≡ record { 0 = 34100 }
  -- R8: a month whose 25th is a Saturday, with no holiday named.
  pub case9 : measurement_day [] 2026 april ≡ 27
  -- R55: a mistake to shut out: February's excess of withdrawals is carried on, March's is not.
  pub carry : (carry_of february (quantity 400) (overdrawn 1000) ≡ quantity 600) × (carry_of march (quantity 400) (overdrawn 1000) ≡ quantity 0)
