-- An accepted letter moves gas from one party to the other and takes the counterpart away, or it comes to stand and moves nothing.
use Prim.Native.Nat.{ℕ}
use mathlib.Core.Path.{◌≡◌, refl, sym, ap, ◌∙◌}
use mathlib.Core.Bool.{Bool, true, false, cond, not, ◌&&◌}
use mathlib.Core.List.{[], ◌∷◌}
use native.Mathlib.Omega.{arith}
use lib.Dec.{eqb}
use lib.IntN.{ℤ, pos, neg_ℤ, ◌+ℤ◌, ◌-ℤ◌, +ℤ_comm, +ℤ_idl, +ℤ_idr, neg_ℤ-neg_ℤ}
use borrow.Author.Tests.{eqb-true, not-false}
use Rattle.tariff.proofs.Bools.{and_left, and_right, either}
use Rattle.ledger.specs.Structs.{Account, Entry, Ledger, Month, Quantity}
use Rattle.ledger.specs.Kinds as kinds
use Rattle.ledger.specs.Kinds.{kind_of, lookup}
use Rattle.ledger.specs.Checks.{verdict}
use Rattle.ledger.specs.Entries.{writer_takes}
use Rattle.ledger.specs.Gas.{giving, taking}
use Rattle.ledger.specs.State.{account_at, no_notice, with_notice, with_today}
use Rattle.ledger.specs.Transfer.{handing_checks}
use Rattle.ledger.specs.Ranges.{account_in_range, notice_in_range}
use Rattle.ledger.specs.Answers.{plain}
use Rattle.ledger.specs.Notice.{exchange_checks, exchanged, exchanging, meets, notice_checks, other_after, waiting, writer_after, writer_waiting}
use Rattle.ledger.specs.Posting.{admission}
use Rattle.ledger.specs.Panel.{open_bank}
use Rattle.ledger.proofs.Verdicts.{clear, first}
use Rattle.ledger.proofs.RightEntries.{a_fits, b_fits, flags_fit, notice_fits}
use Rattle.ledger.proofs.Admissions.{is_begun, is_right}
use Rattle.ledger.proofs.Bounded.{noticed_ranged}
use Rattle.ledger.proofs.OneStep.{Asked, Sound, Taken, account_stored, notice_at, notice_of, pair_stayed, pair_stored, pairs, stayed, stores}
use Rattle.ledger.proofs.StepKinds.{either_way, of_choice}
use Rattle.ledger.proofs.Moving.{Moved, gives, takes}

ruleset signs = (+ℤ_idl, +ℤ_idr, neg_ℤ-neg_ℤ)

-- what comes to an account that takes, or goes from one that gives
abbrev signed : Bool → ℕ → ℤ
signed takes w = cond takes (pos w) (neg_ℤ (pos w))

moves : (t : Bool) (m : Month) (a : Account) (q : Quantity) → Moved a (signed t q.0) (exchanging t m a q)
unfolding exchanging
moves true m a q = takes m a q
moves false m a q = gives m a q

both_zero : (m : Month) (a b : Account) (q : Quantity) → verdict (handing_checks m a b q) ≡ 0 → ((giving m a q).number ≡ 0) × ((taking m b q).number ≡ 0)
unfolding handing_checks
both_zero m a b q v =
    let zeros = not-false (eqb (giving m a q).number 0 && eqb (taking m b q).number 0) (clear _ refl v 2) in (
      eqb-true (giving m a q).number 0 (and_left (eqb (giving m a q).number 0) (eqb (taking m b q).number 0) zeros),
      eqb-true (taking m b q).number 0 (and_right (eqb (giving m a q).number 0) (eqb (taking m b q).number 0) zeros),
    )

module _ (e : Entry) where
  abbrev q : Quantity
  q = record { 0 = e.w1 }

  exchanged_zero : (a b : Account) → verdict (exchange_checks e a b) ≡ 0
      → ((exchanging (writer_takes e) e.date.month a q).number ≡ 0) × ((exchanging (not (writer_takes e)) e.date.month b q).number ≡ 0)
  unfolding exchange_checks exchanging
  exchanged_zero a b v = go (writer_takes e) v
    where
      go : (t : Bool) → verdict (cond t (handing_checks e.date.month b a q) (handing_checks e.date.month a b q)) ≡ 0
          → ((exchanging t e.date.month a q).number ≡ 0) × ((exchanging (not t) e.date.month b q).number ≡ 0)
      go true v = let zeros = both_zero e.date.month b a q v in (zeros.1, zeros.0)
      go false v = both_zero e.date.month a b q v

  -- what the writer gives: less than nothing where it takes
  abbrev given : ℤ
  given = signed (not (writer_takes e)) e.w1

  writer_signed : signed (writer_takes e) e.w1 ≡ neg_ℤ given
  writer_signed = go (writer_takes e)
    where
      go : (t : Bool) → signed t e.w1 ≡ neg_ℤ (signed (not t) e.w1)
      go true = sym (neg_ℤ-neg_ℤ (pos e.w1))
      go false = refl

  -- the two sums of a pair of letters, by who takes and who gives
  by_sides : (i : ℕ) → cond (eqb (cond (writer_takes e) e.a e.b) i) (pos e.w1) (pos 0) -ℤ cond (eqb (cond (writer_takes e) e.b e.a) i) (pos e.w1) (pos 0)
      ≡ cond (eqb e.b i) given (pos 0) -ℤ cond (eqb e.a i) given (pos 0)
  by_sides i = go (writer_takes e) (eqb e.a i) (eqb e.b i) refl refl
    where
      go : (t a b : Bool) → eqb e.a i ≡ a → eqb e.b i ≡ b
          → cond (eqb (cond t e.a e.b) i) (pos e.w1) (pos 0) -ℤ cond (eqb (cond t e.b e.a) i) (pos e.w1) (pos 0)
          ≡ cond (eqb e.b i) (signed (not t) e.w1) (pos 0) -ℤ cond (eqb e.a i) (signed (not t) e.w1) (pos 0)
      go true true true p q = rw (p, q, neg_ℤ-neg_ℤ) (+ℤ_comm (pos e.w1) (neg_ℤ (pos e.w1)))
      go true true false p q = rw (p, q) (simp signs)
      go true false true p q = rw (p, q) (simp signs)
      go true false false p q = rw (p, q)
      go false a b p q = refl

module _ (l : Ledger) (e : Entry) (s : Sound l) (h : admission l e ≡ 0) (is : e.kind ≡ kinds.NOTICE) (o : verdict (notice_checks l e) ≡ 0) where
  abbrev writer : Account
  writer = account_at l e.a

  abbrev other : Account
  other = account_at l e.b

  begun : l.begun ≡ true
  begun = is_begun l e h (λ z. omega (arith, z, is))

  -- the two checks of every letter, and what is left of the list
  checks : (not (writer.opened && other.opened) ≡ false) × (writer.today.notice.stands ≡ false)
      × (verdict (cond (meets l e) (exchange_checks e writer other) ((not (account_in_range (writer_waiting e writer)), 29) ∷ [])) ≡ 0)
  unfolding notice_checks verdict
  checks =
      let opened = first (not (writer.opened && other.opened)) 24 _ refl o in
      let silent = first writer.today.notice.stands 26 _ refl opened.1 in
      (opened.0, silent.0, silent.1)

  asked : Asked l e
  unfolding kind_of lookup
  asked =
      let right = is_right l e h in
      let two : (kind_of e.kind).accounts ≡ 2 = rw is in
      let one : (kind_of e.kind).flags ≡ 1 = rw is in
      let opened = not-false (writer.opened && other.opened) checks.0 in
      record {
        writer = a_fits e right (omega arith);
        other = b_fits e right (omega arith);
        apart = (notice_fits e right is).1;
        flags = omega (arith, flags_fit e right, one);
        opened = (and_left writer.opened other.opened opened, and_right writer.opened other.opened opened);
        silent = checks.1;
      }

  -- ---- the first of two letters

  takes_waiting : meets l e ≡ false → Taken l e (plain 0) (waiting l e)
  unfolding waiting writer_waiting with_notice with_today open_bank verdict
  takes_waiting alone =
      stores e 12 is refl l (writer_waiting e writer) (pos 0) refl refl s begun asked.writer
      (not-false (account_in_range (writer_waiting e writer)) (clear ((not (account_in_range (writer_waiting e writer)), 29) ∷ []) refl (rw alone at checks.2) 0))
      (sym (+ℤ_idr (open_bank writer)))
      refl
      refl
      (λ i. rw alone (sym (either_way (eqb e.a i) (pos 0))))
      (record {
        notices =
            λ i. ap (λ (a : Account). a.today.notice) (account_stored l e.a (writer_waiting e writer) s.sized asked.writer i)
            ∙ of_choice (λ (a : Account). a.today.notice) (eqb e.a i) (writer_waiting e writer) (account_at l i) ∙ rw alone;
        opens = stayed l e.a (writer_waiting e writer) s.sized asked.writer (λ (a : Account). a.opened) refl;
        enrols = λ z. absurd (omega (arith, z));
        asked = λ _. asked;
      })

  -- ---- the second

  module _ (met : meets l e ≡ true) where
    zeros : ((exchanging (writer_takes e) e.date.month writer (q e)).number ≡ 0) × ((exchanging (not (writer_takes e)) e.date.month other (q e)).number ≡ 0)
    zeros = exchanged_zero e writer other (rw met at checks.2)

    wrote : Moved writer (signed (writer_takes e) e.w1) (exchanging (writer_takes e) e.date.month writer (q e))
    wrote = moves (writer_takes e) e.date.month writer (q e)

    answered : Moved other (given e) (exchanging (not (writer_takes e)) e.date.month other (q e))
    answered = moves (not (writer_takes e)) e.date.month other (q e)

    takes_exchanged : Taken l e (plain 0) (exchanged l e)
    unfolding exchanged writer_after other_after notice_in_range with_notice with_today open_bank
    takes_exchanged =
        pairs e 12 is refl l (writer_after e writer) (other_after e other) (given e) refl s begun asked.writer asked.other asked.apart
        (wrote.ranged zeros.0)
        (noticed_ranged _ no_notice (answered.ranged zeros.1) refl)
        (wrote.bank asked.opened.0 ∙ ap (λ (z : ℤ). open_bank writer +ℤ z) (writer_signed e))
        (answered.bank asked.opened.1)
        wrote.debt answered.debt wrote.days answered.days
        (λ i. rw met (by_sides e i))
        (record {
          notices = letters;
          opens = pair_stayed l e.a e.b (writer_after e writer) (other_after e other) s.sized asked.writer asked.other (λ (a : Account). a.opened) wrote.opened answered.opened;
          enrols = λ z. absurd (omega (arith, z));
          asked = λ _. asked;
        })
      where
        letters : (i : ℕ) → notice_of (exchanged l e) i ≡ notice_at 12 l e i
        letters i =
            ap (λ (a : Account). a.today.notice) (pair_stored l e.a e.b (writer_after e writer) (other_after e other) s.sized asked.writer asked.other i)
            ∙ rw met (go (eqb e.b i) (eqb e.a i) refl)
          where
            go : (t u : Bool) → eqb e.a i ≡ u
                → (cond t (other_after e other) (cond u (writer_after e writer) (account_at l i))).today.notice ≡ cond t no_notice (notice_of l i)
            go true u p = refl
            go false true p = rw (← eqb-true e.a i p) wrote.letter
            go false false p = refl

  pub takes_notice : Taken l e (plain 0) (cond (meets l e) (exchanged l e) (waiting l e))
  takes_notice = either (Taken l e (plain 0)) (meets l e) (exchanged l e) (waiting l e) takes_exchanged takes_waiting
