-- A range check joins its parts by "and", so one that passed tells each part, as a bound on a natural number.
use Prim.Native.Nat.{ℕ, ◌≤◌, ◌<◌}
use mathlib.Core.Path.{◌≡◌}
use mathlib.Core.Bool.{Bool, true, false, not, ◌&&◌, ◌||◌, true≢false}
use native.Mathlib.Omega.{arith}
use lib.Dec.{leb}
use lib.ListN.{length}
use borrow.Author.Tests.{leb-true}
use Rattle.tariff.specs.Amounts.{size, size_mills}
use Rattle.tariff.specs.Dates.{real}
use Rattle.tariff.specs.Holidays.{holidays_in_range}
use Rattle.tariff.specs.Terms.{terms_in_range}
use Rattle.ledger.specs.Structs.{Account, Ledger, Notice, Totals}
use Rattle.tariff.proofs.Bools.{and_left, and_right, parts}
use Rattle.tariff.proofs.Laws.{within_size, within_mills_size}
use Rattle.ledger.specs.State.{nobody, account_at, with_notice, with_today}
use Rattle.ledger.specs.Ranges.{totals_in_range, step_in_range, notice_in_range, account_in_range, every_account, in_range}
use Rattle.ledger.proofs.Lists.{every_at}

pub record TotalsBounded (m : Totals) : Type 0 where
  pub net : size m.net ≤ 100000000000
  pub sales : m.sales.0 ≤ 100000000000
  pub purchases : m.purchases.0 ≤ 100000000000
  pub cash_ins : m.cash_ins.0 ≤ 100000000000
  pub cash_outs : m.cash_outs.0 ≤ 100000000000
  pub usage : m.usage.0 ≤ 100000000

totals_bounded : (m : Totals) → totals_in_range m ≡ true → TotalsBounded m
unfolding totals_in_range
totals_bounded m h =
    record {
      net = within_size 100000000000 100000000000 m.net (search parts depth 8) (omega arith);
      sales = leb-true m.sales.0 100000000000 (search parts depth 8);
      purchases = leb-true m.purchases.0 100000000000 (search parts depth 8);
      cash_ins = leb-true m.cash_ins.0 100000000000 (search parts depth 8);
      cash_outs = leb-true m.cash_outs.0 100000000000 (search parts depth 8);
      usage = leb-true m.usage.0 100000000 (search parts depth 8);
    }

pub record Bounded (a : Account) : Type 0 where
  pub bank : size a.bank ≤ 100000000000
  pub totals : TotalsBounded a.month.totals
  pub over : a.step.over ≤ 2
  pub under : a.step.under ≤ 2
  pub mdq : a.mdq.0 ≤ 300000
  pub mddq : a.capacity.mddq.0 ≤ 300000
  pub bcq : a.capacity.bcq.0 ≤ 30000000
  pub carry : a.carry.0 ≤ 100000000000
  pub owed : size_mills a.owed ≤ 1000000000000000
  pub days : a.violation_days ≤ 40000

pub bounded : (a : Account) → account_in_range a ≡ true → Bounded a
unfolding account_in_range step_in_range
bounded a h =
    record {
      bank = within_size 1000000000 100000000000 a.bank (search parts depth 9) (omega arith);
      totals = totals_bounded a.month.totals (search parts depth 9);
      over = leb-true a.step.over 2 (search parts depth 9);
      under = leb-true a.step.under 2 (search parts depth 9);
      mdq = leb-true a.mdq.0 300000 (search parts depth 9);
      mddq = leb-true a.capacity.mddq.0 300000 (search parts depth 9);
      bcq = leb-true a.capacity.bcq.0 30000000 (search parts depth 9);
      carry = leb-true a.carry.0 100000000000 (search parts depth 9);
      owed = within_mills_size 1000000000000000 a.owed (search parts depth 9);
      days = leb-true a.violation_days 40000 (search parts depth 9);
    }

-- another notice that is in range leaves the account so
pub noticed_ranged : (a : Account) (n : Notice) → account_in_range a ≡ true → notice_in_range n ≡ true → account_in_range (with_notice a n) ≡ true
unfolding account_in_range with_notice with_today
noticed_ranged a n h g = rw (and_left _ (notice_in_range a.today.notice) h) g

-- one by one, for what finds a bound by itself
module _ (a : Account) (h : account_in_range a ≡ true) where
  pub bank_fits : size a.bank ≤ 100000000000
  bank_fits = (bounded a h).bank

  pub net_fits : size a.month.totals.net ≤ 100000000000
  net_fits = (bounded a h).totals.net

  pub sales_fits : a.month.totals.sales.0 ≤ 100000000000
  sales_fits = (bounded a h).totals.sales

  pub purchases_fits : a.month.totals.purchases.0 ≤ 100000000000
  purchases_fits = (bounded a h).totals.purchases

  pub cash_ins_fits : a.month.totals.cash_ins.0 ≤ 100000000000
  cash_ins_fits = (bounded a h).totals.cash_ins

  pub cash_outs_fits : a.month.totals.cash_outs.0 ≤ 100000000000
  cash_outs_fits = (bounded a h).totals.cash_outs

  pub usage_fits : a.month.totals.usage.0 ≤ 100000000
  usage_fits = (bounded a h).totals.usage

  pub over_fits : a.step.over ≤ 2
  over_fits = (bounded a h).over

  pub under_fits : a.step.under ≤ 2
  under_fits = (bounded a h).under

  pub mdq_fits : a.mdq.0 ≤ 300000
  mdq_fits = (bounded a h).mdq

  pub mddq_fits : a.capacity.mddq.0 ≤ 300000
  mddq_fits = (bounded a h).mddq

  pub bcq_fits : a.capacity.bcq.0 ≤ 30000000
  bcq_fits = (bounded a h).bcq

  pub carry_fits : a.carry.0 ≤ 100000000000
  carry_fits = (bounded a h).carry

  pub owed_fits : size_mills a.owed ≤ 1000000000000000
  owed_fits = (bounded a h).owed

  pub days_fits : a.violation_days ≤ 40000
  days_fits = (bounded a h).days

pub ruleset bounds = (bank_fits, net_fits, sales_fits, purchases_fits, cash_ins_fits, cash_outs_fits, usage_fits, over_fits, under_fits, mdq_fits, mddq_fits, bcq_fits, carry_fits, owed_fits, days_fits)

-- of an open account also its steps
pub record Stepped (a : Account) : Type 0 where
  pub k : (1 ≤ a.step.k) × (a.step.k ≤ 100)
  pub pending : (1 ≤ a.step.pending) × (a.step.pending ≤ 100)

or_else : (a b : Bool) → a || b ≡ true → a ≡ false → b ≡ true
or_else true b h e = absurd (true≢false e)
or_else false b h e = h

pub stepped : (a : Account) → account_in_range a ≡ true → a.opened ≡ true → Stepped a
unfolding account_in_range step_in_range
stepped a h o =
    let steps : leb 1 a.step.k && leb a.step.k 100 && (leb 1 a.step.pending && leb a.step.pending 100) ≡ true =
    or_else (not a.opened) (leb 1 a.step.k && leb a.step.k 100 && (leb 1 a.step.pending && leb a.step.pending 100)) (search parts depth 9) (rw o) in
    record {
      k = (leb-true 1 a.step.k (search parts), leb-true a.step.k 100 (search parts));
      pending = (leb-true 1 a.step.pending (search parts), leb-true a.step.pending 100 (search parts));
    }

pub k_fits : (a : Account) → account_in_range a ≡ true → a.opened ≡ true → a.step.k ≤ 100
k_fits a h o = (stepped a h o).k.1

pub pending_fits : (a : Account) → account_in_range a ≡ true → a.opened ≡ true → a.step.pending ≤ 100
pending_fits a h o = (stepped a h o).pending.1

-- ---- a ledger in range, by its three parts

pub record Ranged (l : Ledger) : Type 0 where
  pub dated : not l.begun || (real l.date && terms_in_range l.terms) ≡ true
  pub held : holidays_in_range l.holidays ≡ true
  pub accounts : every_account account_in_range l.accounts ≡ true

pub ranged_parts : (l : Ledger) → in_range l ≡ true → Ranged l
unfolding in_range
ranged_parts l h = record { dated = search parts; held = search parts; accounts = search parts }

pub ranged_whole : (l : Ledger) → Ranged l → in_range l ≡ true
unfolding in_range
ranged_whole l r = rw (r.dated, r.held) r.accounts

-- every account of a ledger in range is in range
pub account_ranged : (l : Ledger) (i : ℕ) → length l.accounts ≡ 16 → i < 16 → in_range l ≡ true → account_in_range (account_at l i) ≡ true
unfolding account_at
account_ranged l i n h e = every_at account_in_range l.accounts i nobody (omega arith) (ranged_parts l e).accounts

-- once begun, terms and date are in range
pub begun_ranged : (l : Ledger) → in_range l ≡ true → l.begun ≡ true → (real l.date ≡ true) × (terms_in_range l.terms ≡ true)
begun_ranged l e o =
    let both : real l.date && terms_in_range l.terms ≡ true =
    or_else (not l.begun) (real l.date && terms_in_range l.terms) (ranged_parts l e).dated (rw o) in
    (and_left (real l.date) (terms_in_range l.terms) both, and_right (real l.date) (terms_in_range l.terms) both)
