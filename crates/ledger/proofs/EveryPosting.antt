-- One posting of any bytes to any sound ledger: the length, what every posting is asked, and then the kind decide which rule it meets, and each rule's step is known.
use Prim.Native.Nat.{ℕ, ◌<◌, ◌≤◌}
use mathlib.Core.Path.{◌≡◌, refl}
use mathlib.Core.List.{List}
use native.Mathlib.Omega.{arith}
use lib.Dec.{eqb}
use lib.ListN.{length}
use borrow.Author.Tests.{eqb-true}
use Rattle.tariff.proofs.Bools.{either}
use Rattle.ledger.specs.Checks.{verdict}
use Rattle.ledger.specs.Kinds.{kind_of}
use Rattle.ledger.specs.Entries.{entry_of}
use Rattle.ledger.specs.State.{account_at}
use Rattle.ledger.specs.Answers.{refused, settle}
use Rattle.ledger.specs.Terms.{post_terms}
use Rattle.ledger.specs.Enrol.{enrolment}
use Rattle.ledger.specs.Deliver.{delivery}
use Rattle.ledger.specs.Transfer.{post_transfer}
use Rattle.ledger.specs.Trade.{trade}
use Rattle.ledger.specs.Measure.{measurement}
use Rattle.ledger.specs.Usage.{usage}
use Rattle.ledger.specs.Confiscated.{confiscation}
use Rattle.ledger.specs.Closings.{post_closing, closing_checks, closed}
use Rattle.ledger.specs.Holiday.{post_holiday}
use Rattle.ledger.specs.Notice.{post_notice}
use Rattle.ledger.specs.Posting.{admission, post_several, change_of, stored, post_kind, post_entry, posted}
use Rattle.ledger.specs.Structs.{Account, Change, Entry, Ledger}
use Rattle.ledger.proofs.RightEntries.{a_fits}
use Rattle.ledger.proofs.Admissions.{is_right}
use Rattle.ledger.proofs.KindCases.{done, ◌then◌, each}
use Rattle.ledger.proofs.OneStep.{Sound, Step, step_refused, step_settle}
use Rattle.ledger.proofs.StepKinds.{takes_terms, takes_enrol, takes_deliver, takes_transfer, takes_trade, takes_measure, takes_usage, takes_confiscated, takes_holiday}
use Rattle.ledger.proofs.StepClosing.{step_closed}
use Rattle.ledger.proofs.StepNotice.{takes_notice}

module _ (l : Ledger) (b : List ℕ) (s : Sound l) where
  abbrev e : Entry
  e = entry_of b

  step_closing : admission l e ≡ 0 → 8 ≤ e.kind → e.kind ≤ 9 → Step l b (post_closing l e)
  unfolding post_closing
  step_closing h c d =
      either (Step l b) (eqb (verdict (closing_checks l e)) 0) (closed l e) (refused l (verdict (closing_checks l e)))
      (λ o. step_closed l b s h c d (eqb-true (verdict (closing_checks l e)) 0 o))
      (λ o. step_refused l b (verdict (closing_checks l e)) o)

  -- a line for each kind of no account or of two
  step_several : admission l e ≡ 0 → Step l b (post_several l e)
  unfolding post_several post_terms post_transfer post_holiday post_notice
  step_several h =
      each (Step l b) e.kind (refused l 2)
      ((λ is. step_settle l b _ _ (takes_terms l e s h is))
      then (λ is. step_settle l b _ _ (takes_transfer l e s h is))
      then (λ is. step_closing h (omega arith) (omega arith))
      then (λ is. step_closing h (omega arith) (omega arith))
      then (λ is. step_settle l b _ _ (takes_holiday l e s h is))
      then (λ is. step_settle l b _ _ (takes_notice l e s h is))
      then done)
      (step_refused l b 2 refl)

  abbrev old : Account
  old = account_at l (entry_of b).a

  -- and for each kind of one
  step_one : admission l e ≡ 0 → e.a < 16 → Step l b (stored l e.a (change_of l.terms old e))
  unfolding change_of stored enrolment delivery trade measurement usage confiscation
  step_one h i =
      each (λ (c : Change). Step l b (stored l e.a c)) e.kind _
      ((λ is. step_settle l b _ _ (takes_enrol l e s h i is))
      then (λ is. step_settle l b _ _ (takes_deliver l e s h i is))
      then (λ is. step_settle l b _ _ (takes_trade l e s h i is))
      then (λ is. step_settle l b _ _ (takes_measure l e s h i is))
      then (λ is. step_settle l b _ _ (takes_usage l e s h i is))
      then (λ is. step_settle l b _ _ (takes_confiscated l e s h i is))
      then done)
      (unfold settle refused in step_refused l b 2 refl)

  step_kind : admission l e ≡ 0 → Step l b (post_kind l e)
  unfolding post_kind
  step_kind h =
      either (Step l b) (eqb (kind_of e.kind).accounts 1) (stored l e.a (change_of l.terms old e)) (post_several l e)
      (λ t. let one = eqb-true (kind_of e.kind).accounts 1 t in step_one h (a_fits e (is_right l e h) (omega arith)))
      (λ _. step_several h)

  -- any bytes at all
  pub step : Step l b (posted l b)
  unfolding posted post_entry
  step =
      either (Step l b) (eqb (length b) 32) (post_entry l e) (refused l 1)
      (λ _. either (Step l b) (eqb (admission l e) 0) (post_kind l e) (refused l (admission l e))
      (λ h. step_kind (eqb-true (admission l e) 0 h))
      (λ h. step_refused l b (admission l e) h))
      (λ _. step_refused l b 1 refl)
