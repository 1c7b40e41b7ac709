-- A letter whose counterpart is not there stores its writer with a notice alone, which is no gas; and a TRANSFER or a letter that no limit stops leaves
-- every bank in its range.
use Prim.Native.Nat.{ℕ, zero, suc}
use mathlib.Core.Path.{◌≡◌, refl, sym, ap, ◌∙◌}
use mathlib.Core.Bool.{Bool, true, false, cond, not, ◌&&◌}
use mathlib.Core.List.{List, [], ◌∷◌}
use mathlib.Core.Logic.{◌⊎◌, inl, inr}
use native.Mathlib.Omega.{arith}
use lib.Dec.{eqb}
use lib.ListN.{get_or, length, set}
use borrow.Author.Tests.{eqb-true}
use Rattle.tariff.proofs.Bools.{either}
use Rattle.ledger.specs.Answers.{plain, refused, settle}
use Rattle.ledger.specs.Checks.{verdict}
use Rattle.ledger.specs.Entries.{entry_of, writer_takes}
use Rattle.ledger.specs.Kinds.{kind_of, lookup}
use Rattle.ledger.specs.Letters.{NeverOutOfRange, NoGasAlone, SameSide}
use Rattle.ledger.specs.Notice.{awaits, meets, notice_checks, post_notice, waiting, writer_waiting}
use Rattle.ledger.specs.Panel.{bank_of, open_bank}
use Rattle.ledger.specs.Posting.{admission, post_entry, post_kind, post_several, posted}
use Rattle.ledger.specs.State.{account_at, nobody, with_account, with_notice, with_today}
use Rattle.ledger.specs.Structs.{Account, Entry, Ledger, Month, Notice, Posted, Quantity}
use Rattle.ledger.specs.Transfer.{post_transfer, transfer_checks}
use Rattle.ledger.proofs.Admissions.{is_ranged, is_right}
use Rattle.ledger.proofs.Bounded.{account_ranged}
use Rattle.ledger.proofs.PairOfLetters.{before_limits, pair_is_transfer}
use Rattle.ledger.proofs.RightEntries.{a_fits, b_fits}
use Rattle.ledger.proofs.Transfers.{hand_number, handing_number}
use Rattle.ledger.proofs.TwoLetters.{exchange_number, letter_checks_number, letter_verdict}
use Rattle.ledger.proofs.letters.Goals as goal

-- ---- each is posted as what it is

module _ (n : ℕ) (a b c d e f otherwise : Posted) where
  abbrev chosen : Posted
  chosen = lookup n ((1, a) ∷ (4, b) ∷ (8, c) ∷ (9, d) ∷ (11, e) ∷ (12, f) ∷ []) otherwise

  fourth_kind : n ≡ 4 → chosen ≡ b
  unfolding lookup
  fourth_kind k = rw k

  twelfth_kind : n ≡ 12 → chosen ≡ f
  unfolding lookup
  twelfth_kind k = rw k

abbrev names_one : ℕ → Bool
names_one kind = eqb (kind_of kind).accounts 1

neither_one : (names_one 4 ≡ false) × (names_one 12 ≡ false)
unfolding kind_of lookup
neither_one = (refl, refl)

module _ (l : Ledger) (e : Entry) where
  as_transfer : e.kind ≡ 4 → post_kind l e ≡ post_transfer l e
  unfolding post_kind post_several
  as_transfer k = rw (ap names_one k ∙ neither_one.0) (fourth_kind e.kind _ _ _ _ _ _ _ k)

  as_notice : e.kind ≡ 12 → post_kind l e ≡ post_notice l e
  unfolding post_kind post_several
  as_notice k = rw (ap names_one k ∙ neither_one.1) (twelfth_kind e.kind _ _ _ _ _ _ _ k)

-- ---- alone

-- one account stored whose bank is as it was
bank_stays : (xs : List Account) (a i : ℕ) (v : Account) → open_bank v ≡ open_bank (get_or xs a nobody) → open_bank (get_or (set xs a v) i nobody) ≡ open_bank (get_or xs i nobody)
bank_stays [] a i v h = refl
bank_stays (x ∷ xs) zero zero v h = h
bank_stays (x ∷ xs) zero (suc i) v h = refl
bank_stays (x ∷ xs) (suc a) zero v h = refl
bank_stays (x ∷ xs) (suc a) (suc i) v h = bank_stays xs a i v h

module _ (l : Ledger) (e : Entry) (i : ℕ) where
  abbrev Stays : Posted → Type 0
  Stays p = bank_of p.ledger i ≡ bank_of l i

  waiting_stays : bank_of (waiting l e) i ≡ bank_of l i
  unfolding bank_of account_at waiting with_account writer_waiting with_notice with_today
  waiting_stays = bank_stays l.accounts e.a i _ (unfold open_bank in refl)

  notice_stays : meets l e ≡ false → Stays (post_notice l e)
  unfolding post_notice settle plain
  notice_stays alone =
      rw alone
      (either (λ (m : Ledger). bank_of m i ≡ bank_of l i) (eqb (verdict (notice_checks l e)) 0) (waiting l e) l (λ _. waiting_stays) (λ _. refl))

  entry_stays : e.kind ≡ 12 → meets l e ≡ false → Stays (post_entry l e)
  unfolding post_entry refused
  entry_stays k alone =
      either Stays (eqb (admission l e) 0) _ _ (λ _. rw (as_notice l e k) (notice_stays alone)) (λ _. refl)

no_gas_alone : NoGasAlone
unfolding posted refused
no_gas_alone l b k alone i =
    either (Stays l (entry_of b) i) (eqb (length b) 32) _ _ (λ _. entry_stays l (entry_of b) i k alone) (λ _. refl)

-- ---- of the same side

other_side : (x y z t u : Bool) → u ≡ t → x && y && cond u (not t) t && z ≡ false
other_side false y z t u s = refl
other_side true false z t u s = refl
other_side true true z true true s = refl
other_side true true z false false s = refl
other_side true true z true false s = absurd (cc)
other_side true true z false true s = absurd (cc)

none_of_same_side : (n : Notice) (e : Entry) → n.takes ≡ writer_takes e → awaits n e ≡ false
unfolding awaits
none_of_same_side n e s = other_side n.stands (eqb n.other e.a) (eqb n.units.0 e.w1) (writer_takes e) n.takes s

same_side : SameSide
unfolding meets
same_side l b k s = no_gas_alone l b k (none_of_same_side (account_at l (entry_of b).b).today.notice (entry_of b) s)

-- ---- never 29

another_number : (o s m : Bool) (n : ℕ) → (n ≡ 29 → ⊥) → letter_checks_number o s m n ≡ 29 → ⊥
another_number false s m n d h = absurd (omega arith)
another_number true true m n d h = absurd (omega arith)
another_number true false true n d h = d h
another_number true false false n d h = absurd (omega arith)

hand_in_range : (o t : Bool) → hand_number o t ≡ 29 → ⊥
hand_in_range false t h = absurd (omega arith)
hand_in_range true true h = absurd (omega arith)
hand_in_range true false h = absurd (omega arith)

exchange_in_range : (takes : Bool) (m : Month) (a b : Account) (q : Quantity) → exchange_number takes m a b q ≡ 29 → ⊥
exchange_in_range true m a b q = hand_in_range _ _
exchange_in_range false m a b q = hand_in_range _ _

abbrev InRange : Posted → Type 0
InRange p = p.answer.number ≡ 29 → ⊥

module _ (l : Ledger) (e : Entry) (size : length l.accounts ≡ 16) where
  notice_in_range_lem : e.kind ≡ 12 → admission l e ≡ 0 → InRange (post_notice l e)
  unfolding post_notice settle plain
  notice_in_range_lem k h z =
      another_number _ _ _ _ (exchange_in_range (writer_takes e) e.date.month (account_at l e.a) (account_at l e.b) (record { 0 = e.w1 }))
      (sym (letter_verdict l e size h k) ∙ z)

  transfer_in_range : e.kind ≡ 4 → admission l e ≡ 0 → InRange (post_transfer l e)
  unfolding post_transfer settle plain transfer_checks kind_of lookup
  transfer_in_range k h z =
      let two : (kind_of e.kind).accounts ≡ 2 = rw k in
      let right = is_right l e h in
      let ranged = is_ranged l e h in
      hand_in_range _ _
      (sym (handing_number e.date.month (account_at l e.a) (account_at l e.b) (record { 0 = e.w1 })
      (account_ranged l e.a size (a_fits e right (omega arith)) ranged)
      (account_ranged l e.b size (b_fits e right (omega arith)) ranged))
      ∙ z)

  kind_in_range : (e.kind ≡ 4) ⊎ (e.kind ≡ 12) → admission l e ≡ 0 → InRange (post_kind l e)
  kind_in_range (inl k) h = rw (as_transfer l e k) (transfer_in_range k h)
  kind_in_range (inr k) h = rw (as_notice l e k) (notice_in_range_lem k h)

  entry_in_range : (e.kind ≡ 4) ⊎ (e.kind ≡ 12) → InRange (post_entry l e)
  unfolding post_entry refused plain
  entry_in_range k = either InRange (eqb (admission l e) 0) _ _ (λ z. kind_in_range k (eqb-true (admission l e) 0 z)) (λ _. (before_limits l e).1)

never_out_of_range : NeverOutOfRange
unfolding posted refused plain
never_out_of_range l b size k = either InRange (eqb (length b) 32) _ _ (λ _. entry_in_range l (entry_of b) size k) (λ _ h. absurd (omega arith))

pub returns-clause-pair : goal.returns-clause-pair
returns-clause-pair c = pair_is_transfer

pub returns-clause-in_range : goal.returns-clause-in_range
returns-clause-in_range c = never_out_of_range

pub returns-clause-alone : goal.returns-clause-alone
returns-clause-alone c = no_gas_alone

pub returns-clause-same_side : goal.returns-clause-same_side
returns-clause-same_side c = same_side
