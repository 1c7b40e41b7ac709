-- An accepted closing adds to each account what it reports of it, and moves the date to a real one.
use Prim.Native.Nat.{ℕ, ◌≤◌, ◌<◌}
use mathlib.Core.Path.{◌≡◌, refl, sym, ap, ◌∙◌}
use mathlib.Core.Bool.{Bool, true, false, not, ◌&&◌, ◌||◌, true≢false}
use mathlib.Core.List.{List, [], ◌∷◌, map}
use native.Mathlib.Omega.{arith}
use lib.Dec.{eqb}
use lib.IntN.{ℤ, ◌+ℤ◌}
use lib.ListN.{length-map}
use borrow.Author.Tests.{eq-eqb, ne_eqb, eqb-true, eqb-false, not-false}
use Rattle.tariff.specs.Dates.{real, last_of_month, last_date, day_after}
use Rattle.tariff.specs.Holidays.{holidays_in_range}
use Rattle.tariff.specs.Terms.{terms_in_range}
use Rattle.ledger.specs.Structs.{Account, Entry, Holidays, Ledger, Report, Terms}
use Rattle.tariff.proofs.Bools.{and_left, and_right, either, or_right}
use Rattle.tariff.proofs.BusinessDays.{kept_ranged}
use Rattle.tariff.proofs.NextDays.{right_days}
use Rattle.ledger.specs.Checks.{verdict}
use Rattle.ledger.specs.Entries.{entry_of}
use Rattle.ledger.specs.State.{account_at}
use Rattle.ledger.specs.Ranges.{account_in_range, every_account, in_range}
use Rattle.ledger.specs.Closing.{closing_of, after_closing, report_of, stays_in_range}
use Rattle.ledger.specs.Closings.{closing_checks, closed, holidays_after}
use Rattle.ledger.specs.Kinds.{lookup}
use Rattle.ledger.specs.Days.{wrong_day}
use Rattle.ledger.specs.Posting.{admission}
use Rattle.ledger.specs.Panel.{open_bank, bank_of}
use Rattle.ledger.proofs.Verdicts.{clear}
use Rattle.ledger.proofs.Bounded.{begun_ranged, ranged_parts, ranged_whole}
use Rattle.ledger.proofs.Admissions.{is_begun, is_day, is_real_lem}
use Rattle.ledger.proofs.ClosedAccounts.{open_owed, open_days, report_moves, report_days, accounted, account_closed, account_reported, closed_letter, closed_opened}
use Rattle.ledger.proofs.OneStep.{Sound, Taken, Step, gain_at, report_at}

both : (a b : Bool) → a ≡ true → b ≡ true → a && b ≡ true
both a b p q = rw (p, q)

or_else : (a b : Bool) → b ≡ true → a || b ≡ true
or_else true b q = refl
or_else false b q = q

-- accounts that all stay in range are in range when closed
closed_ranged : (new : Bool) (t : Terms) (e : Entry) (xs : List Account) → every_account (stays_in_range new t e) xs ≡ true → every_account account_in_range (map (after_closing new t e) xs) ≡ true
unfolding every_account stays_in_range after_closing
closed_ranged new t e [] h = refl
closed_ranged new t e (x ∷ xs) h =
    rw (and_right (account_in_range (closing_of new t e x).day) (account_in_range (closing_of new t e x).account) (and_left (stays_in_range new t e x) (every_account (stays_in_range new t e) xs) h))
    (closed_ranged new t e xs (and_right (stays_in_range new t e x) (every_account (stays_in_range new t e) xs) h))

module _ (l : Ledger) (e : Entry) (s : Sound l) (h : admission l e ≡ 0) (c : 8 ≤ e.kind) (d : e.kind ≤ 9) where
  -- no closing is of another kind
  isnt : (m : ℕ) → m < 8 → eqb e.kind m ≡ false
  isnt m q = ne_eqb e.kind m (λ z. omega arith)

  is_closing : eqb e.kind 8 || eqb e.kind 9 ≡ true
  is_closing = go (eqb e.kind 8) refl
    where
      go : (t : Bool) → eqb e.kind 8 ≡ t → t || eqb e.kind 9 ≡ true
      go true z = refl
      go false z = eq-eqb e.kind 9 (omega (arith, eqb-false e.kind 8 z))

  begun : l.begun ≡ true
  begun = is_begun l e h (λ z. omega arith)

  report_is : (i : ℕ) → report_at e.kind (closed l e).answer i ≡ (closing_of l.is_new l.terms e (account_at l i)).report
  unfolding report_of
  report_is i = rw is_closing (account_reported l e i)

  after_is : (i : ℕ) → account_at (closed l e).ledger i ≡ (closing_of l.is_new l.terms e (account_at l i)).account
  unfolding after_closing
  after_is i = account_closed l e i

  gain_is : (i : ℕ) → gain_at e.kind l e (closed l e).answer i ≡ report_moves (closing_of l.is_new l.terms e (account_at l i)).report
  unfolding report_of
  gain_is i = rw (isnt 2 (omega arith), isnt 3 (omega arith), isnt 4 (omega arith), isnt 5 (omega arith), is_closing) (ap report_moves (account_reported l e i))

  keeps_rate : (closed l e).ledger.terms.retainage ≡ l.terms.retainage
  unfolding closed
  keeps_rate = refl

  -- a closing that came on its day did not come on the last date of all
  not_last : last_date e.date ≡ false
  unfolding wrong_day lookup
  not_last = go (eqb e.kind 8) refl
    where
      go : (t : Bool) → eqb e.kind 8 ≡ t → last_date e.date ≡ false
      go true z = or_right (last_of_month e.date) (last_date e.date) (rw (eqb-true e.kind 8 z) at (is_day l e h))
      go false z = or_right (not (last_of_month e.date)) (last_date e.date) (rw (nine z) at (is_day l e h))
        where
          nine : eqb e.kind 8 ≡ false → e.kind ≡ 9
          nine z = omega (arith, eqb-false e.kind 8 z)

  next_real : real (day_after e.date) ≡ true
  next_real = (right_days e.date (is_real_lem l e h) not_last).is_real

  held_ranged : holidays_in_range (holidays_after e l.holidays) ≡ true
  unfolding holidays_after
  held_ranged =
      let held = (ranged_parts l s.ranged).held in
      either (λ (h : Holidays). holidays_in_range h ≡ true) (eqb e.kind 9) _ l.holidays (λ _. kept_ranged l.holidays (day_after e.date) held) (λ _. held)

  next_ranged : verdict (closing_checks l e) ≡ 0 → in_range (closed l e).ledger ≡ true
  unfolding closed closing_checks
  next_ranged o =
      ranged_whole (closed l e).ledger
      (record {
        dated = or_else (not l.begun) (real (day_after e.date) && terms_in_range l.terms) (both (real (day_after e.date)) (terms_in_range l.terms) next_real (begun_ranged l s.ranged begun).1);
        held = held_ranged;
        accounts = closed_ranged l.is_new l.terms e l.accounts (not-false (every_account (stays_in_range l.is_new l.terms e) l.accounts) (clear _ refl o 1));
      })

  takes_closing : verdict (closing_checks l e) ≡ 0 → Taken l e (closed l e).answer (closed l e).ledger
  unfolding bank_of
  takes_closing o =
      record {
        sound = record { sized = unfold closed in (length-map l.accounts (after_closing l.is_new l.terms e) ∙ s.sized); ranged = next_ranged o };
        banks = λ i. ap open_bank (after_is i) ∙ (accounted l.is_new l.terms e (account_at l i)).bank ∙ ap (λ (z : ℤ). open_bank (account_at l i) +ℤ z) (sym (gain_is i));
        debts = λ i. ap open_owed (after_is i) ∙ (accounted l.is_new l.terms e (account_at l i)).owed ∙ ap (λ (r : Report). open_owed (account_at l i) +ℤ r.bill.0) (sym (report_is i));
        days = λ i. ap open_days (after_is i) ∙ (accounted l.is_new l.terms e (account_at l i)).days ∙ ap (λ (r : Report). open_days (account_at l i) +ℤ report_days r) (sym (report_is i));
        retainage = keeps_rate ∙ sym (rw (isnt 1 (omega arith)));
        started = λ _. begun;
        parties = λ z. absurd (omega (arith, z));
        letters =
            record {
              notices = λ i. ap (λ (a : Account). a.today.notice) (after_is i) ∙ closed_letter l.is_new l.terms e (account_at l i) is_closing ∙ sym (rw (isnt 2 (omega arith), is_closing));
              opens = λ i. ap (λ (a : Account). a.opened) (after_is i) ∙ closed_opened l.is_new l.terms e (account_at l i) ∙ sym (rw (isnt 2 (omega arith)));
              enrols = λ z. absurd (omega (arith, z));
              asked = λ z. absurd (omega (arith, z));
            };
      }

module _ (l : Ledger) (b : List ℕ) (s : Sound l) (h : admission l (entry_of b) ≡ 0) (c : 8 ≤ (entry_of b).kind) (d : (entry_of b).kind ≤ 9) where
  pub step_closed : verdict (closing_checks l (entry_of b)) ≡ 0 → Step l b (closed l (entry_of b))
  step_closed o = record { kept = λ z. absurd (true≢false (unfold closed in z)); taken = λ _. takes_closing l (entry_of b) s h c d o }
