-- All ask the same: what a TRANSFER of the day is asked, or the second of two letters, is what list and number ask of seller, quantity and the other
-- account.
use Prim.Native.Nat.{ℕ}
use mathlib.Core.Path.{◌≡◌, refl, sym, ◌∙◌}
use mathlib.Core.Bool.{Bool, true, false, cond, ◌&&◌}
use mathlib.Core.List.{[]}
use lib.Dec.{eqb, ltb}
use borrow.Author.Tests.{eq-eqb, eqb-false, eqb-true, lt-leb, lt-ltb, ltb-true, ne_eqb, not-true}
use Rattle.tariff.proofs.Bools.{and_left, and_right, parts}
use Rattle.ledger.specs.Checks.{verdict}
use Rattle.ledger.specs.Letters.{first_posted, second_posted, transfer_today}
use Rattle.ledger.specs.Posting.{posted}
use Rattle.ledger.proofs.TwoLetters.{pair_if, pair_only_if}
use Rattle.ledger.proofs.Transfers.{Parties, Transferable, accepted_if, accepted_only_if}
use Rattle.partners.specs.EveryList.{is_in, listed, times}
use Rattle.partners.specs.Listing.{answer, partner_checks, partners_below, partners_of}
use Rattle.partners.specs.Receivers.{could_receive, spares, takes}
use Rattle.partners.specs.Structs.{Ledger}
use Rattle.partners.specs.Transfers.{ListedCanBeSent, ListedCanWrite, could_send, could_write}
use Rattle.partners.proofs.Members.{below_is_in, listed_answer}
use Rattle.partners.proofs.Numbers.{check_by_check, in_reach, is_begun, is_open, is_ranged, is_some}
use Rattle.partners.proofs.listed_can_be_sent.Goals as goal

module _ (l : Ledger) (s j q : ℕ) where
  abbrev number : ℕ
  number = verdict (partner_checks l s q)

  -- whether j is listed, by number and account
  is_listed : is_in j (listed (partners_of l s q)) ≡ eqb number 0 && (ltb j 16 && could_receive l s q j)
  unfolding partners_of
  is_listed = go (eqb number 0)
    where
      go : (t : Bool) → is_in j (listed (cond t (answer 0 (partners_below l s q 16)) (answer number []))) ≡ t && (ltb j 16 && could_receive l s q j)
      go true = rw (listed_answer 0 (partners_below l s q 16)) (below_is_in l s q 16 j)
      go false = rw (listed_answer number []) (unfold is_in times in refl)

  listed_transferable : eqb number 0 && (ltb j 16 && could_receive l s q j) ≡ true → Transferable l s j q
  unfolding could_receive takes spares
  listed_transferable h =
      let z : number ≡ 0 = eqb-true number 0 (search parts) in
      record {
        parties =
            record {
              from = in_reach l s q z;
              to = ltb-true j 16 (search parts);
              apart = λ (p : s ≡ j). eqb-false j s (not-true (eqb j s) (search parts)) (sym p);
              units = is_some l s q z;
              ranged = is_ranged l s q z;
              begun = is_begun l s q z;
              gives = is_open l s q z;
              takes = search parts;
            };
        kept = not-true _ (search parts);
        fits = not-true _ (search parts);
      }

  no_number : Parties l s j q → number ≡ 0
  no_number t = cc (check_by_check l s q, lt-leb 16 s t.from, t.units)

  transferable_listed : Transferable l s j q → eqb number 0 && (ltb j 16 && could_receive l s q j) ≡ true
  unfolding could_receive takes spares
  transferable_listed t =
      let both = t.parties in
      rw (eq-eqb number 0 (no_number both), lt-ltb j 16 both.to, both.takes, ne_eqb j s (λ (p : j ≡ s). both.apart (sym p)), t.fits, t.kept)

-- two tests that pass together are one
alike : (a b : Bool) → (a ≡ true → b ≡ true) → (b ≡ true → a ≡ true) → a ≡ b
alike true b f g = sym (f refl)
alike false true f g = g refl
alike false false f g = refl

can_be_sent : ListedCanBeSent
unfolding could_send
can_be_sent l s j q n has w =
    is_listed l s j q
    ∙ alike _ _
    (λ h. eq-eqb (posted l (transfer_today l s j q)).answer.number 0 (accepted_if l s j q n has w (listed_transferable l s j q h)))
    (λ h. transferable_listed l s j q (accepted_only_if l s j q n w (eqb-true (posted l (transfer_today l s j q)).answer.number 0 h)))

can_write : ListedCanWrite
unfolding could_write
can_write giver_first l s j q n new w giver_free taker_free =
    is_listed l s j q
    ∙ alike _ _
    (λ h. let zeros = pair_if l s j q n new w giver_free taker_free giver_first (listed_transferable l s j q h) in rw (zeros.0, zeros.1))
    (λ h. transferable_listed l s j q (pair_only_if l s j q n new w giver_free taker_free giver_first (eqb-true (first_posted giver_first l s j q).answer.number 0 (and_left _ _ h)) (eqb-true (second_posted giver_first l s j q).answer.number 0 (and_right _ _ h))))

pub returns-clause-sent : goal.returns-clause-sent
returns-clause-sent c = can_be_sent

pub returns-clause-written : goal.returns-clause-written
returns-clause-written c = can_write
