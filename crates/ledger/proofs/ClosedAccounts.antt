-- What a closing makes of an account is what it reports of it.
use Prim.Native.Nat.{ℕ, ◌+◌}
use mathlib.Core.Path.{◌≡◌, refl, sym, ap, ◌∙◌}
use mathlib.Core.Bool.{Bool, true, false, cond, ◌||◌, false≢true}
use mathlib.Core.List.{map}
use lib.Dec.{eqb}
use lib.IntN.{ℤ, pos, neg_ℤ, ◌+ℤ◌, ◌-ℤ◌, +ℤ_idr, +ℤ_assoc}
use lib.ListN.{get_or, get_or-map}
use Rattle.tariff.specs.Amounts.{inward, outward, sum, less, added}
use Rattle.ledger.specs.Structs.{Account, Closed, Entry, Ledger, Quantity, Report, Terms, Units}
use Rattle.tariff.proofs.Bools.{either}
use Rattle.tariff.proofs.Laws.{sum_value, less_value, added_value, in_and_out, inward_zero, outward_zero}
use Rattle.ledger.specs.Entries.{prices_of}
use Rattle.ledger.specs.Kinds.{lookup}
use Rattle.ledger.specs.State.{nobody, no_notice, no_today, account_at, with_bank, with_capacity, with_carry, with_days, with_excuse, with_measure, with_month, with_today, with_totals}
use Rattle.ledger.specs.Answers.{quiet}
use Rattle.ledger.specs.Closing.{violations_of, cash_at, day_end, after_day, forfeit_at, bill_at, month_end, after_month, day_closing, month_closing, left_alone, closing_of, after_closing, report_of}
use Rattle.ledger.specs.Closings.{closed}
use Rattle.ledger.proofs.KindCases.{done, each, ◌then◌}
use Rattle.ledger.specs.Panel.{open_bank}

abbrev pub open_owed : Account → ℤ
open_owed a = cond a.opened a.owed.0 (pos 0)

abbrev pub open_days : Account → ℤ
open_days a = cond a.opened (pos a.violation_days) (pos 0)

-- what a report adds to a bank, and to the violation days
abbrev pub report_moves : Report → ℤ
report_moves r = pos (inward r.cash).0 -ℤ pos (outward r.cash).0 -ℤ pos r.forfeit.0

abbrev pub report_days : Report → ℤ
report_days r = cond (eqb r.mask 0) (pos 0) (pos 1)

pub record Accounted (a : Account) (c : Closed) : Type 0 where
  pub bank : open_bank c.account ≡ open_bank a +ℤ report_moves c.report
  pub owed : open_owed c.account ≡ open_owed a +ℤ c.report.bill.0
  pub days : open_days c.account ≡ open_days a +ℤ report_days c.report

-- a number of an open account that grows by y
pub grows : (o : Bool) (new old y : ℤ) → o ≡ true → new ≡ old +ℤ y → cond o new (pos 0) ≡ cond o old (pos 0) +ℤ y
grows true new old y h g = g
grows false new old y h g = absurd (false≢true h)

day_more : (t : Bool) (m : ℕ) → pos (m + cond t 0 1) ≡ pos m +ℤ cond t (pos 0) (pos 1)
day_more true m = refl
day_more false m = refl

-- ---- nothing to report

pub quiet_in : (inward quiet.cash).0 ≡ 0
unfolding quiet
quiet_in = inward_zero quiet.cash refl

pub quiet_out : (outward quiet.cash).0 ≡ 0
unfolding quiet
quiet_out = outward_zero quiet.cash refl

pub quiet_forfeit : quiet.forfeit.0 ≡ 0
unfolding quiet
quiet_forfeit = refl

pub quiet_bill : quiet.bill.0 ≡ pos 0
unfolding quiet
quiet_bill = refl

pub quiet_mask : quiet.mask ≡ 0
unfolding quiet
quiet_mask = refl

module _ (new : Bool) (t : Terms) (e : Entry) (a : Account) where
  of_none : Accounted a (left_alone a)
  unfolding left_alone quiet open_bank
  of_none =
      record {
        bank = rw (inward_zero quiet.cash refl, outward_zero quiet.cash refl) (sym (+ℤ_idr (open_bank a)));
        owed = sym (+ℤ_idr (open_owed a));
        days = sym (+ℤ_idr (open_days a));
      }

  abbrev cash : Units
  cash = cash_at e.date a

  abbrev mask : ℕ
  mask = violations_of e.date a

  more_days : a.opened ≡ true → cond a.opened (pos (a.violation_days + cond (eqb mask 0) 0 1)) (pos 0) ≡ open_days a +ℤ cond (eqb mask 0) (pos 0) (pos 1)
  more_days o =
      grows a.opened (pos (a.violation_days + cond (eqb mask 0) 0 1)) (pos a.violation_days) (cond (eqb mask 0) (pos 0) (pos 1)) o
      (day_more (eqb mask 0) a.violation_days)

  of_day : a.opened ≡ true → Accounted a (day_closing e.date a)
  unfolding day_closing after_day day_end with_today with_days with_excuse with_totals with_month with_bank open_bank
  of_day o =
      record {
        bank =
            grows a.opened (sum a.bank cash).0 a.bank.0 (pos (inward cash).0 -ℤ pos (outward cash).0 -ℤ pos 0) o
            (sum_value a.bank cash ∙ ap (λ (z : ℤ). a.bank.0 +ℤ z) (in_and_out cash ∙ sym (+ℤ_idr (pos (inward cash).0 -ℤ pos (outward cash).0))));
        owed = sym (+ℤ_idr (open_owed a));
        days = more_days o;
      }

  abbrev c : Account
  c = after_day e.date a

  abbrev taken : Quantity
  taken = forfeit_at new e.date t a

  abbrev forfeit : ℤ
  forfeit = pos taken.0

  of_month : a.opened ≡ true → Accounted a (month_closing new e.date t (prices_of e) a)
  unfolding month_closing after_month month_end with_carry with_capacity with_measure after_day day_end with_today with_days with_excuse with_totals with_month with_bank open_bank
  of_month o =
      record {
        bank =
            grows a.opened (less (sum a.bank cash) taken).0 a.bank.0 (pos (inward cash).0 -ℤ pos (outward cash).0 -ℤ forfeit) o
            (less_value (sum a.bank cash) taken
            ∙ ap (λ (z : ℤ). z -ℤ forfeit) (sum_value a.bank cash ∙ ap (λ (z : ℤ). a.bank.0 +ℤ z) (in_and_out cash))
            ∙ +ℤ_assoc a.bank.0 (pos (inward cash).0 -ℤ pos (outward cash).0) (neg_ℤ forfeit));
        owed =
            grows a.opened (added a.owed (bill_at t (prices_of e) c)).0 a.owed.0 (bill_at t (prices_of e) c).0 o
            (added_value a.owed (bill_at t (prices_of e) c));
        days = more_days o;
      }

  pub accounted : Accounted a (closing_of new t e a)
  unfolding closing_of
  accounted =
      either (Accounted a) a.opened _ _
      (λ o. each (Accounted a) e.kind (left_alone a) ((λ _. of_day o) then (λ _. of_month o) then done) of_none)
      (λ _. of_none)

  -- a letter is gone with its day, if the account is open
  pub closed_letter : eqb e.kind 8 || eqb e.kind 9 ≡ true → (closing_of new t e a).account.today.notice ≡ cond a.opened no_notice a.today.notice
  unfolding closing_of lookup left_alone day_closing month_closing after_month month_end with_carry with_capacity with_measure after_day day_end no_today with_today with_days with_excuse with_totals with_month with_bank
  closed_letter closes = go a.opened (eqb e.kind 8) (eqb e.kind 9) closes
    where
      go : (open' day month : Bool) → day || month ≡ true
          → (cond open' (cond day (day_closing e.date a) (cond month (month_closing new e.date t (prices_of e) a) (left_alone a))) (left_alone a)).account.today.notice ≡ cond open' no_notice a.today.notice
      go true true month h = refl
      go true false true h = refl
      go true false false h = absurd (false≢true h)
      go false day month h = refl

  pub closed_opened : (closing_of new t e a).account.opened ≡ a.opened
  unfolding closing_of lookup left_alone day_closing month_closing after_month month_end with_carry with_capacity with_measure after_day day_end with_today with_days with_excuse with_totals with_month with_bank
  closed_opened = go a.opened (eqb e.kind 8) (eqb e.kind 9)
    where
      go : (open' day month : Bool)
          → (cond open' (cond day (day_closing e.date a) (cond month (month_closing new e.date t (prices_of e) a) (left_alone a))) (left_alone a)).account.opened ≡ a.opened
      go true true month = refl
      go true false true = refl
      go true false false = refl
      go false day month = refl

-- ---- an account of the closed ledger, and what was reported of it

module _ (new : Bool) (t : Terms) (e : Entry) where
  nobody_closed : after_closing new t e nobody ≡ nobody
  unfolding after_closing closing_of left_alone nobody
  nobody_closed = refl

  nobody_reported : report_of new t e nobody ≡ quiet
  unfolding report_of closing_of left_alone nobody
  nobody_reported = refl

module _ (l : Ledger) (e : Entry) (i : ℕ) where
  pub account_closed : account_at (closed l e).ledger i ≡ after_closing l.is_new l.terms e (account_at l i)
  unfolding account_at closed
  account_closed =
      ap (λ (d : Account). get_or (map (after_closing l.is_new l.terms e) l.accounts) i d) (sym (nobody_closed l.is_new l.terms e))
      ∙ get_or-map (after_closing l.is_new l.terms e) l.accounts i nobody

  pub account_reported : get_or (closed l e).answer.reports i quiet ≡ report_of l.is_new l.terms e (account_at l i)
  unfolding account_at closed
  account_reported =
      ap (λ (d : Report). get_or (map (report_of l.is_new l.terms e) l.accounts) i d) (sym (nobody_reported l.is_new l.terms e))
      ∙ get_or-map (report_of l.is_new l.terms e) l.accounts i nobody
