-- The second letter of a pair is asked what the TRANSFER is asked, and stores the same two accounts: the first one's notice comes and goes, and no limit
-- looks at a notice.
use Prim.Native.Nat.{ℕ, ◌<◌}
use mathlib.Core.Path.{◌≡◌, refl, sym, ap, ◌∙◌}
use mathlib.Core.Bool.{Bool, true, false, cond, not, ◌&&◌}
use mathlib.Core.List.{List, [], ◌∷◌}
use mathlib.Core.Logic.{◌⊎◌, inl, inr}
use native.Mathlib.Omega.{arith}
use lib.Dec.{eqb}
use lib.ListN.{length, set}
use lib.Seq.{set-set, set_comm}
use borrow.Author.Tests.{eqb-true, eqb-false, not-true}
use Rattle.tariff.proofs.Bools.{and_left, and_right}
use Rattle.ledger.specs.Answers.{settle}
use Rattle.ledger.specs.Checks.{Check, verdict}
use Rattle.ledger.specs.Entries.{writer_takes}
use Rattle.ledger.specs.Forms.{entry_checks, field_checks}
use Rattle.ledger.specs.Gas.{after_giving, after_taking, giving, taking}
use Rattle.ledger.specs.Letters.{BothFree, BothMove, PairIsTransfer, SecondStops, first_letter, first_posted, first_waits, second_letter, second_posted, transfer_today}
use Rattle.ledger.specs.Notice.{exchanged, exchanging, other_after, waiting, writer_after, writer_waiting, written}
use Rattle.ledger.specs.Posting.{admission, posted, standing_checks}
use Rattle.ledger.specs.State.{account_at, ledger, no_notice, with_account, with_bank, with_notice, with_today}
use Rattle.ledger.specs.Structs.{Account, Entry, Ledger, Month, Notice, Posted, Quantity}
use Rattle.ledger.specs.Transfer.{giver, post_transfer, receiver, transfer_checks}
use Rattle.ledger.proofs.Transfers as transfers
use Rattle.ledger.proofs.Transfers.{Parties, Transferable, accepted_only_if, admitted, hand_number, limit_number, limited, limits_number, other_way, parties_of, transfer_number, transfer_posted}
use Rattle.ledger.proofs.TwoLetters.{after, after_other, after_writer, answering, answering_is, answering_number, first_entry, flag_takes, letter_only_if, opening_number, pair_if, pair_stops, second_entry}

-- ---- a number that no check has

abbrev pub lacks : ℕ → List Check → Bool
lacks n [] = not (eqb n 0)
lacks n (c ∷ cs) = not (eqb c.1 n) && lacks n cs

another : (n : ℕ) (b : Bool) (m rest : ℕ) → eqb m n ≡ false → (rest ≡ n → ⊥) → cond b m rest ≡ n → ⊥
another n true m rest d f h = eqb-false m n d h
another n false m rest d f h = f h

pub lacking : (n : ℕ) (cs : List Check) → lacks n cs ≡ true → verdict cs ≡ n → ⊥
unfolding verdict
lacking n [] t h = eqb-false n 0 (not-true (eqb n 0) t) (sym h)
lacking n (c ∷ cs) t h =
    another n c.0 c.1 (verdict cs) (not-true (eqb c.1 n) (and_left (not (eqb c.1 n)) (lacks n cs) t)) (lacking n cs (and_right (not (eqb c.1 n)) (lacks n cs) t)) h

-- 28 and 29 are the kinds'
pub before_limits : (l : Ledger) (e : Entry) → (admission l e ≡ 28 → ⊥) × (admission l e ≡ 29 → ⊥)
unfolding admission entry_checks field_checks standing_checks
before_limits l e = (lacking 28 _ refl, lacking 29 _ refl)

-- ---- what is stored

-- what giving or taking makes of an account
abbrev moved : Bool → Account → Quantity → Account
moved gives a q = cond gives (after_giving a q) (after_taking a q)

-- a notice that came is gone
notice_gone : (g : Bool) (a : Account) (n none : Notice) (q : Quantity) → a.today.notice ≡ none → with_notice (moved g (with_notice a n) q) none ≡ moved g a q
unfolding with_notice with_today after_giving after_taking with_bank
notice_gone true a n none q h = rw (← h)
notice_gone false a n none q h = rw (← h)

module _ (l : Ledger) (a b : ℕ) (apart : a ≡ b → ⊥) (v w : Account) where
  stored_anew : (x : Account) → with_account (with_account (with_account l a v) b w) a x ≡ with_account (with_account l b w) a x
  unfolding with_account
  stored_anew x =
      ap (λ (xs : List Account). ledger l.begun true l.is_new l.date l.terms l.holidays xs)
      (ap (λ (xs : List Account). set xs a x) (set_comm l.accounts a b v w apart) ∙ set-set (set l.accounts b w) a v x)

  stored_either_way : with_account (with_account l a v) b w ≡ with_account (with_account l b w) a v
  unfolding with_account
  stored_either_way = ap (λ (xs : List Account). ledger l.begun true l.is_new l.date l.terms l.holidays xs) (set_comm l.accounts a b v w apart)

exchanging_is : (takes : Bool) (m : Month) (a : Account) (q : Quantity) → (exchanging takes m a q).account ≡ moved (not takes) a q
unfolding exchanging giving taking
exchanging_is true m a q = refl
exchanging_is false m a q = refl

settled : (l : Ledger) (n : ℕ) (next : Ledger) → n ≡ 0 → (settle l n next).ledger ≡ next
unfolding settle
settled l n next z = rw z

unsettled : (l : Ledger) (n : ℕ) (next : Ledger) → eqb n 0 ≡ false → (settle l n next).ledger ≡ l
unfolding settle
unsettled l n next d = rw d

no_notice_stands : (n : Notice) → n ≡ no_notice → n.stands ≡ false
no_notice_stands n h = ap (λ (m : Notice). m.stands) h

-- the second letter's writer, and the first one's, whose notice goes
module _ (l : Ledger) (w o q : ℕ) (g : Bool) (size : length l.accounts ≡ 16) (new : l.is_new ≡ true) (fits : q < 4294967296) (t : Parties l w o q)
    (none : (account_at l w).today.notice ≡ no_notice) where
  abbrev units : Quantity
  units = record { 0 = q }

  abbrev between : Ledger
  between = after l w o q g size new fits t

  abbrev second : Entry
  second = second_entry l w o q g size new fits t

  thrice : (x : Bool) → not (not (not x)) ≡ not x
  thrice true = refl
  thrice false = refl

  second_takes : writer_takes second ≡ not (not g)
  second_takes = flag_takes second.date o w q (not g)

  second_moves : writer_after second (account_at between o) ≡ moved (not g) (account_at l o) units
  unfolding writer_after
  second_moves =
      exchanging_is (writer_takes second) second.date.month (account_at between o) units
      ∙ rw (second_takes, after_other l w o q g size new fits t, thrice g)

  first_moves : other_after second (account_at between w) ≡ moved g (account_at l w) units
  unfolding other_after writer_waiting
  first_moves =
      ap (λ (a : Account). with_notice a no_notice) (exchanging_is (not (writer_takes second)) second.date.month (account_at between w) units)
      ∙ rw (second_takes, thrice g, after_writer l w o q g size new fits t)
      (go g)
    where
      go : (x : Bool) → with_notice (moved (not (not x)) (with_notice (account_at l w) (written (first_entry l w o q g size new fits t))) units) no_notice ≡ moved x (account_at l w) units
      go true = notice_gone true (account_at l w) _ no_notice units none
      go false = notice_gone false (account_at l w) _ no_notice units none

  exchanged_is : exchanged between second ≡ with_account (with_account l o (moved (not g) (account_at l o) units)) w (moved g (account_at l w) units)
  unfolding exchanged waiting
  exchanged_is = rw (second_moves, first_moves) (stored_anew l w o t.apart _ _ _)

  module _ (other_free : (account_at l o).today.notice.stands ≡ false) where
    abbrev free : (account_at l w).today.notice.stands ≡ false
    free = no_notice_stands (account_at l w).today.notice none

    pair_passes : pair_stops l w o q g ≡ false
        → (answering l w o q g size new fits free other_free).ledger ≡ with_account (with_account l o (moved (not g) (account_at l o) units)) w (moved g (account_at l w) units)
    pair_passes z =
        ap (λ (p : Posted). p.ledger) (answering_is l w o q g size new fits free other_free t)
        ∙ settled between (limit_number (pair_stops l w o q g)) (exchanged between second) (ap limit_number z)
        ∙ exchanged_is

    pair_waits : pair_stops l w o q g ≡ true → (answering l w o q g size new fits free other_free).ledger ≡ between
    pair_waits z =
        ap (λ (p : Posted). p.ledger) (answering_is l w o q g size new fits free other_free t)
        ∙ unsettled between (limit_number (pair_stops l w o q g)) (exchanged between second) (ap (λ (b : Bool). eqb (limit_number b) 0) z)

-- ---- the TRANSFER

-- what 28 tells
handed_to_limit : (x y b : Bool) → hand_number (x && y) b ≡ 28 → (x ≡ true) × (y ≡ true) × (b ≡ true)
handed_to_limit true true true h = (refl, refl, refl)
handed_to_limit true true false h = absurd (omega arith)
handed_to_limit true false b h = absurd (omega arith)
handed_to_limit false y b h = absurd (omega arith)

module _ (l : Ledger) (s j q : ℕ) (size : length l.accounts ≡ 16) (fits : q < 4294967296) where
  abbrev e : Entry
  e = transfers.e l s j q

  at_limit : (b : Bool) → eqb (admission l e) 0 ≡ b → cond b (verdict (transfer_checks l e)) (admission l e) ≡ 28
      → (admission l e ≡ 0) × (verdict (transfer_checks l e) ≡ 28)
  at_limit true z h = (eqb-true (admission l e) 0 z, h)
  at_limit false z h = absurd ((before_limits l e).0 h)

  stopped : (posted l (transfer_today l s j q)).answer.number ≡ 28 → Parties l s j q × (limited l s j q ≡ true)
  stopped z =
      let both = at_limit (eqb (admission l e) 0) refl (sym (transfer_number l s j q fits) ∙ z) in
      let told = handed_to_limit (account_at l s).opened (account_at l j).opened (limited l s j q) (sym (limits_number l s j q both.0 size) ∙ both.1) in
      (parties_of l s j q both.0 told.0 told.1, told.2)

  transfer_ledger : admission l e ≡ 0 → verdict (transfer_checks l e) ≡ 0
      → (posted l (transfer_today l s j q)).ledger
      ≡ with_account (with_account l s (after_giving (account_at l s) (record { 0 = q }))) j (after_taking (account_at l j) (record { 0 = q }))
  unfolding post_transfer settle giver receiver giving taking
  transfer_ledger h v = ap (λ (p : Posted). p.ledger) (transfer_posted l s j q fits) ∙ rw (h, v)

-- ---- in either order

module _ (l : Ledger) (s j q : ℕ) (f : BothFree l s j) (fits : q < 4294967296) where
  giver_free : (account_at l s).today.notice.stands ≡ false
  giver_free = no_notice_stands (account_at l s).today.notice f.giver

  taker_free : (account_at l j).today.notice.stands ≡ false
  taker_free = no_notice_stands (account_at l j).today.notice f.taker

  moves_it : Transferable l s j q
      → (posted l (transfer_today l s j q)).ledger
      ≡ with_account (with_account l s (after_giving (account_at l s) (record { 0 = q }))) j (after_taking (account_at l j) (record { 0 = q }))
  moves_it t =
      let h = admitted l s j q f.has t.parties in
      transfer_ledger l s j q f.sixteen fits h
      (limits_number l s j q h f.sixteen ∙ rw (t.parties.gives, t.parties.takes, t.kept, t.fits))

  same_ledger : (giver_first : Bool) → Transferable l s j q → (second_posted giver_first l s j q).ledger ≡ (posted l (transfer_today l s j q)).ledger
  unfolding first_posted second_posted first_letter second_letter
  same_ledger true t =
      pair_passes l s j q true f.sixteen f.is_new fits t.parties f.giver taker_free (rw (t.kept, t.fits))
      ∙ stored_either_way l j s (λ p. t.parties.apart (sym p)) _ _
      ∙ sym (moves_it t)
  same_ledger false t =
      pair_passes l j s q false f.sixteen f.is_new fits (other_way l s j q t.parties) f.taker giver_free (rw (t.kept, t.fits))
      ∙ sym (moves_it t)

  both_move : (giver_first : Bool) → Transferable l s j q → BothMove giver_first l s j q
  both_move giver_first t =
      let numbers = pair_if l s j q f.sixteen f.is_new fits giver_free taker_free giver_first t in
      record { first = numbers.0; second = numbers.1; same = same_ledger giver_first t }

  second_stops : (giver_first : Bool) → Parties l s j q → limited l s j q ≡ true → SecondStops giver_first l s j q
  unfolding first_posted second_posted first_letter second_letter first_waits waiting writer_waiting written writer_takes
  second_stops true t z =
      record {
        first = opening_number l s j q true f.sixteen f.is_new fits giver_free taker_free t;
        second = answering_number l s j q true f.sixteen f.is_new fits giver_free taker_free t ∙ ap limit_number z;
        stands = pair_waits l s j q true f.sixteen f.is_new fits t f.giver taker_free z;
      }
  second_stops false t z =
      let u = other_way l s j q t in
      record {
        first = opening_number l j s q false f.sixteen f.is_new fits taker_free giver_free u;
        second = answering_number l j s q false f.sixteen f.is_new fits taker_free giver_free u ∙ ap limit_number z;
        stands = pair_waits l j s q false f.sixteen f.is_new fits u f.taker giver_free z;
      }

  abbrev transfer_answer : ℕ
  transfer_answer = (posted l (transfer_today l s j q)).answer.number

  moved_or_stopped : (b : Bool) → transfer_answer ≡ limit_number b → (transfer_answer ≡ 0) ⊎ (transfer_answer ≡ 28)
  moved_or_stopped true h = inr h
  moved_or_stopped false h = inl h

  by_parties : Parties l s j q → (transfer_answer ≡ 0) ⊎ (transfer_answer ≡ 28)
  by_parties t =
      let h = admitted l s j q f.has t in
      moved_or_stopped (limited l s j q) (transfer_number l s j q fits ∙ rw h (limits_number l s j q h f.sixteen ∙ rw (t.gives, t.takes)))

  first_only_if : (giver_first : Bool) → (first_posted giver_first l s j q).answer.number ≡ 0 → (transfer_answer ≡ 0) ⊎ (transfer_answer ≡ 28)
  unfolding first_posted first_letter
  first_only_if true z = by_parties (letter_only_if l s j 0 q f.sixteen fits z).1
  first_only_if false z = by_parties (other_way l j s q (letter_only_if l j s 1 q f.sixteen fits z).1)

pub pair_is_transfer : PairIsTransfer
pair_is_transfer giver_first l s j q f fits = (
  λ z. both_move l s j q f fits giver_first (accepted_only_if l s j q f.sixteen fits z),
  λ z. let at = stopped l s j q f.sixteen fits z in second_stops l s j q f fits giver_first at.0 at.1,
  first_only_if l s j q f fits giver_first,
)
