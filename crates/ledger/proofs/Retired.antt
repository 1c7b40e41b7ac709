-- One check alone has the number 36, and a TRANSFER that comes too late is what it finds: so 36 tells of one, and one gets no number that is asked later.
use Prim.Native.Nat.{ℕ, zero, suc}
use mathlib.Core.Path.{◌≡◌, refl, sym, ap, ◌∙◌}
use mathlib.Core.Bool.{Bool, true, false, cond, not, ◌&&◌, false≢true, true≢false}
use mathlib.Core.List.{List, [], ◌∷◌}
use native.Mathlib.Omega.{arith}
use lib.Dec.{eqb}
use lib.ListN.{length, get_or}
use borrow.Author.Tests.{eq-eqb, eqb-false, eqb-true, not-true}
use Rattle.tariff.specs.Dates.{before}
use Rattle.tariff.proofs.Bools.{and_left, and_right, either}
use Rattle.ledger.specs.Structs.{Account, Change, Entry, Ledger, Posted, Terms}
use Rattle.ledger.specs.Answers.{plain, refused, settle}
use Rattle.ledger.specs.Checks.{Check, verdict}
use Rattle.ledger.specs.Closings.{closed, closing_checks, post_closing}
use Rattle.ledger.specs.Confiscated.{confiscation, confiscation_checks}
use Rattle.ledger.specs.Days.{letters_alone, retired}
use Rattle.ledger.specs.Deliver.{deliver_checks, delivery}
use Rattle.ledger.specs.Enrol.{enrol_checks, enrolment}
use Rattle.ledger.specs.Entries.{company_sells, day_named, entry_of, writer_takes}
use Rattle.ledger.specs.Forms.{entry_checks, field_checks}
use Rattle.ledger.specs.Gas.{giving, giving_checks, taking, taking_checks}
use Rattle.ledger.specs.Holiday.{holiday_checks, post_holiday}
use Rattle.ledger.specs.Kinds.{kind_of}
use Rattle.ledger.specs.Measure.{measure_checks, measurement}
use Rattle.ledger.specs.Notice.{exchange_checks, meets, notice_checks, post_notice}
use Rattle.ledger.specs.OldAndNew.{RefusesTooLate, RetiredOnly, TooLate, up_to_36}
use Rattle.ledger.specs.Posting.{admission, change_of, post_entry, post_kind, post_several, posted, standing_checks, stored}
use Rattle.ledger.specs.State.{account_at}
use Rattle.ledger.specs.Terms.{post_terms, terms_checks}
use Rattle.ledger.specs.Trade.{trade, traded}
use Rattle.ledger.specs.Transfer.{handing_checks, post_transfer, transfer_checks}
use Rattle.ledger.specs.Usage.{usage, usage_checks}
use Rattle.ledger.proofs.KindCases.{done, each, ◌then◌}

-- ---- a list of checks

abbrev Other : ℕ → Type 0
Other n = n ≡ 36 → ⊥

-- no check has the number 36
abbrev others : List Check → Bool
others [] = true
others (c ∷ cs) = not (eqb c.1 36) && others cs

-- none but check i has it
abbrev others_but : ℕ → List Check → Bool
others_but i [] = true
others_but zero (c ∷ cs) = others cs
others_but (suc i) (c ∷ cs) = not (eqb c.1 36) && others_but i cs

differs : (n : ℕ) → not (eqb n 36) ≡ true → Other n
differs n t = eqb-false n 36 (not-true (eqb n 36) t)

-- so no verdict is 36, or check i gave it
other : (cs : List Check) → others cs ≡ true → Other (verdict cs)
unfolding verdict
other [] t = λ z. omega (arith, z)
other (c ∷ cs) t =
    either Other c.0 c.1 (verdict cs)
    (λ _. differs c.1 (and_left (not (eqb c.1 36)) (others cs) t))
    (λ _. other cs (and_right (not (eqb c.1 36)) (others cs) t))

gave : (b : Bool) (n rest : ℕ) → Other rest → cond b n rest ≡ 36 → b ≡ true
gave true n rest o z = refl
gave false n rest o z = absurd (o z)

passed : (b : Bool) (n rest : ℕ) → Other n → cond b n rest ≡ 36 → rest ≡ 36
passed true n rest o z = absurd (o z)
passed false n rest o z = z

found : (i : ℕ) (cs : List Check) → others_but i cs ≡ true → verdict cs ≡ 36 → (get_or cs i (false, 0)).0 ≡ true
unfolding verdict
found i [] t z = absurd (omega (arith, z))
found zero (c ∷ cs) t z = gave c.0 c.1 (verdict cs) (other cs t) z
found (suc i) (c ∷ cs) t z =
    found i cs (and_right (not (eqb c.1 36)) (others_but i cs) t)
    (passed c.0 c.1 (verdict cs) (differs c.1 (and_left (not (eqb c.1 36)) (others_but i cs) t)) z)

-- where check i finds its fault, it or one before it gives the number
abbrev early : ℕ → List Check → Bool
early i [] = true
early zero (c ∷ cs) = up_to_36 c.1
early (suc i) (c ∷ cs) = up_to_36 c.1 && early i cs

reached : (i : ℕ) (cs : List Check) → early i cs ≡ true → (get_or cs i (false, 0)).0 ≡ true → up_to_36 (verdict cs) ≡ true
unfolding verdict
reached i [] t h = absurd (false≢true h)
reached zero (c ∷ cs) t h = rw h t
reached (suc i) (c ∷ cs) t h =
    either (λ (n : ℕ). up_to_36 n ≡ true) c.0 c.1 (verdict cs)
    (λ _. and_left (up_to_36 c.1) (early i cs) t)
    (λ _. reached i cs (and_right (up_to_36 c.1) (early i cs) t) h)

-- ---- admission

module _ (l : Ledger) (e : Entry) where
  comes_late : retired l.is_new e ≡ true → TooLate l e
  unfolding retired
  comes_late r =
      let late : l.is_new && not (before e.date letters_alone) ≡ true = and_right (eqb e.kind 4) (l.is_new && not (before e.date letters_alone)) r in
      record {
        is_new = and_left l.is_new (not (before e.date letters_alone)) late;
        transfer = eqb-true e.kind 4 (and_left (eqb e.kind 4) (l.is_new && not (before e.date letters_alone)) r);
        from_then_on = not-true (before e.date letters_alone) (and_right l.is_new (not (before e.date letters_alone)) late);
      }

  late_retired : TooLate l e → retired l.is_new e ≡ true
  unfolding retired
  late_retired t = rw (eq-eqb e.kind 4 t.transfer, t.is_new, t.from_then_on)

  admission_late : admission l e ≡ 36 → TooLate l e
  unfolding admission entry_checks field_checks standing_checks
  admission_late z = comes_late (found 9 _ refl z)

  late_refused : TooLate l e → up_to_36 (admission l e) ≡ true
  unfolding admission entry_checks field_checks standing_checks up_to_36
  late_refused t = reached 9 _ refl (late_retired t)

-- ---- what the kinds ask

traded_other : (a : Account) (e : Entry) → Other (trade a e).number
unfolding trade traded giving giving_checks taking taking_checks
traded_other a e =
    either Other (not a.opened) 24 _ (λ _ z. omega (arith, z))
    (λ _. either (λ (c : Change). Other c.number) (company_sells e) _ _ (λ _. other _ refl) (λ _. other _ refl))

change_other : (t : Terms) (a : Account) (e : Entry) → Other (change_of t a e).number
unfolding change_of enrolment enrol_checks delivery deliver_checks measurement measure_checks usage usage_checks confiscation confiscation_checks
change_other t a e =
    each (λ (c : Change). Other c.number) e.kind _
    ((λ _. other (enrol_checks t a e) refl)
    then (λ _. other (deliver_checks t.retainage a e) refl)
    then (λ _. traded_other a e)
    then (λ _. other (measure_checks a e) refl)
    then (λ _. other (usage_checks a e) refl)
    then (λ _. other (confiscation_checks a e) refl)
    then done)
    (λ z. omega (arith, z))

abbrev Answers : Posted → Type 0
Answers p = Other p.answer.number

module _ (l : Ledger) (e : Entry) where
  settled_other : (n : ℕ) (next : Ledger) → Other n → Answers (settle l n next)
  unfolding settle plain
  settled_other n next o = o

  refused_other : (n : ℕ) → Other n → Answers (refused l n)
  unfolding refused plain
  refused_other n o = o

  -- of two letters that meet, or of one that waits
  notice_other : Other (verdict (notice_checks l e))
  unfolding notice_checks exchange_checks handing_checks
  notice_other =
      other _
      (either (λ (cs : List Check). others cs ≡ true) (meets l e) _ _
      (λ _. either (λ (cs : List Check). others cs ≡ true) (writer_takes e) _ _ (λ _. refl) (λ _. refl))
      (λ _. refl))

  closing_other : Answers (post_closing l e)
  unfolding post_closing closing_checks closed
  closing_other = either Answers (eqb (verdict (closing_checks l e)) 0) (closed l e) _ (λ _ z. omega (arith, z)) (λ _. refused_other _ (other (closing_checks l e) refl))

  several_other : Answers (post_several l e)
  unfolding post_several post_terms terms_checks post_transfer transfer_checks handing_checks post_holiday holiday_checks post_notice
  several_other =
      each Answers e.kind _
      ((λ _. settled_other _ _ (other (terms_checks l e) refl))
      then (λ _. settled_other _ _ (other (transfer_checks l e) refl))
      then (λ _. closing_other)
      then (λ _. closing_other)
      then (λ _. settled_other _ _ (other (holiday_checks l (day_named e)) refl))
      then (λ _. settled_other _ _ notice_other)
      then done)
      (refused_other 2 (λ z. omega (arith, z)))

  kind_other : Answers (post_kind l e)
  unfolding post_kind stored
  kind_other = either Answers (eqb (kind_of e.kind).accounts 1) _ _ (λ _. settled_other _ _ (change_other l.terms (account_at l e.a) e)) (λ _. several_other)

  -- ---- an entry, and any bytes

  entry_only : (post_entry l e).answer.number ≡ 36 → TooLate l e
  unfolding post_entry refused plain
  entry_only =
      either (λ (p : Posted). p.answer.number ≡ 36 → TooLate l e) (eqb (admission l e) 0) (post_kind l e) _
      (λ _ z. absurd (kind_other z))
      (λ _. admission_late l e)

  entry_refused : TooLate l e → up_to_36 (post_entry l e).answer.number ≡ true
  unfolding post_entry refused plain up_to_36
  entry_refused t =
      either (λ (p : Posted). up_to_36 p.answer.number ≡ true) (eqb (admission l e) 0) (post_kind l e) _
      (λ z. absurd (true≢false (sym (late_refused l e t) ∙ ap up_to_36 (eqb-true (admission l e) 0 z))))
      (λ _. late_refused l e t)

pub retired_only : RetiredOnly
unfolding posted refused plain
retired_only l b =
    either (λ (p : Posted). p.answer.number ≡ 36 → TooLate l (entry_of b)) (eqb (length b) 32) (post_entry l (entry_of b)) _
    (λ _. entry_only l (entry_of b))
    (λ _ z. absurd (omega (arith, z)))

pub refuses_too_late : RefusesTooLate
unfolding posted refused plain up_to_36
refuses_too_late l b t =
    either (λ (p : Posted). up_to_36 p.answer.number ≡ true) (eqb (length b) 32) (post_entry l (entry_of b)) _
    (λ _. entry_refused l (entry_of b) t)
    (λ _. refl)
