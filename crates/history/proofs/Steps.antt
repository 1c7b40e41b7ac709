-- One accepted posting adds to the sums what the ledger's law of one posting says, and leaves the letters of the list and the notices of the ledger as one.
use Prim.Native.Nat.{ℕ, suc}
use mathlib.Core.Path.{◌≡◌, refl, sym, ap, ◌∙◌}
use mathlib.Core.Bool.{Bool, true, false, cond, ◌&&◌, ◌||◌, false≢true}
use mathlib.Core.List.{List, [], ◌∷◌}
use mathlib.Core.Logic.{⊎_elim}
use native.Mathlib.Omega.{arith}
use lib.Dec.{eqb, ltb}
use lib.ListN.{length}
use lib.IntN.{ℤ, ◌+ℤ◌}
use borrow.Author.Tests.{eqb-true, ne_eqb}
use Rattle.tariff.proofs.Bools.{either}
use Rattle.ledger.specs.Entries.{entry_of}
use Rattle.ledger.specs.State.{fresh, account_at, no_notice}
use Rattle.ledger.specs.Notice.{awaits, meets, written}
use Rattle.ledger.specs.Panel.{bank_of}
use Rattle.ledger.specs.Running.{Line}
use Rattle.ledger.specs.declared.entries.Entry.{Entry}
use Rattle.ledger.specs.declared.state.Ledger.{Ledger}
use Rattle.ledger.specs.declared.state.Notice.{Notice}
use Rattle.ledger.proofs.OneStep.{Sound, Asked, Taken, notice_of, notice_at}
use Rattle.ledger.proofs.Counterparts.{meets_is}
use Rattle.ledger.proofs.FreshLedger.{fresh_sound, fresh_not_begun, fresh_notice}
use Rattle.history.specs.History.{entry, Letter, Known, start, met, left, closes, completes, standing_after, after, reported, billed, violated, of_all, transferred_to, transferred_from, owed_of, days_of, told}
use Rattle.history.proofs.Letters.{Orderly, later, silent, answered, orderly_left, told_left}
use Rattle.history.proofs.Lines.{at_kind, moved, moved_is, balanced}

-- a ledger on the way: it is sound, its retainage is the one that is known, and its accounts have the notices of the letters that stand
pub record Reached (l : Ledger) (k : Known) : Type 0 where
  pub sound : Sound l
  pub rated : l.begun ≡ true → l.terms.retainage ≡ k.retainage
  pub orderly : Orderly k.place k.standing
  pub stands : (i : ℕ) → (account_at l i).today.notice ≡ told k.standing i
  pub shut : (i : ℕ) → (account_at l i).opened ≡ false → told k.standing i ≡ no_notice

pub fresh_reached : (new : Bool) → Reached (fresh new) start
unfolding start Orderly told
fresh_reached new =
    record {
      sound = fresh_sound new;
      rated = λ o. absurd (false≢true (sym (fresh_not_begun new) ∙ o));
      orderly = tt;
      stands = fresh_notice new;
      shut = λ i o. refl;
    }

-- ---- the letters that stand, one accepted posting later

module _ (l : Ledger) (k : Known) (x : Line) (next : Ledger) (s : Reached l k) (t : Taken l (entry_of x.bytes) x.answer next) where
  abbrev e : Entry
  e = entry_of x.bytes

  -- the ledger sees a counterpart where the list has one
  pub seen : e.kind ≡ 12 → meets l e ≡ ltb 0 (length (met e k.standing))
  seen is = meets_is l e ∙ ap (λ (n : Notice). awaits n e) (s.stands e.b) ∙ answered e k.place k.standing s.orderly (t.letters.asked is).flags

  -- what stands, by the kind
  abbrev standing_of : ℕ → List Letter
  standing_of n =
      cond (eqb n 8 || eqb n 9) []
      (cond (eqb n 12 && ltb 0 (length (met e k.standing))) (left e k.standing)
      (cond (eqb n 12) (record { place = k.place; entry = e } ∷ k.standing) k.standing))

  same_order : Orderly (suc k.place) k.standing
  same_order = later k.place (suc k.place) k.standing s.orderly (omega arith)

  record Lettered (n : ℕ) (ss : List Letter) : Type 0 where
    orderly : Orderly (suc k.place) ss
    stands : (i : ℕ) → notice_at n l e i ≡ told ss i
    shut : (i : ℕ) → cond (eqb n 2 && eqb e.a i) true (account_at l i).opened ≡ false → told ss i ≡ no_notice

  -- a kind that leaves letters as they were
  same_letters : (n : ℕ) → eqb n 2 ≡ false → eqb n 8 ≡ false → eqb n 9 ≡ false → eqb n 12 ≡ false → Lettered n (standing_of n)
  same_letters n d2 d8 d9 d12 = rw (d8, d9, d12) (record { orderly = same_order; stands = λ i. rw (d2, d8, d9, d12) (s.stands i); shut = λ i o. s.shut i (rw d2 at o) })

  enrolling : (account_at l e.a).opened ≡ false → Lettered 2 k.standing
  enrolling shut =
      record {
        orderly = same_order;
        stands = λ i. either (λ (n : Notice). n ≡ told k.standing i) (eqb e.a i) no_notice (notice_of l i) (λ z. sym (s.shut i (rw (← eqb-true e.a i z) shut))) (λ z. s.stands i);
        shut = λ i. either (λ (o : Bool). o ≡ false → told k.standing i ≡ no_notice) (eqb e.a i) true (account_at l i).opened (λ z o. absurd (false≢true (sym o))) (λ z. s.shut i);
      }

  closing : (n : ℕ) → eqb n 8 || eqb n 9 ≡ true → eqb n 2 ≡ false → Lettered n []
  unfolding Orderly told
  closing n is d2 =
      record {
        orderly = tt;
        stands = λ i. rw (d2, is) (either (λ (m : Notice). m ≡ no_notice) (account_at l i).opened no_notice (notice_of l i) (λ z. refl) (λ z. s.stands i ∙ s.shut i z));
        shut = λ i o. refl;
      }

  -- the second of two letters, and one that is to wait
  second : meets l e ≡ true → ltb 0 (length (met e k.standing)) ≡ true → Lettered 12 (left e k.standing)
  second m h =
      record {
        orderly = later k.place (suc k.place) (left e k.standing) (orderly_left e k.place k.standing s.orderly) (omega arith);
        stands = λ i. rw (m, s.stands i) (sym (gone i));
        shut = λ i o. gone i ∙ either (λ (n : Notice). n ≡ no_notice) (eqb e.b i) no_notice (told k.standing i) (λ z. refl) (λ z. s.shut i o);
      }
    where
      gone : (i : ℕ) → told (left e k.standing) i ≡ cond (eqb e.b i) no_notice (told k.standing i)
      gone i = told_left e k.place k.standing i s.orderly h

  first : meets l e ≡ false → Asked l e → Lettered 12 (record { place = k.place; entry = e } ∷ k.standing)
  unfolding Orderly told
  first m asked =
      record {
        orderly = (omega arith, asked.flags, silent k.standing e.a (rw (← s.stands e.a) asked.silent), s.orderly);
        stands = λ i. rw (m, s.stands i) refl;
        shut = λ i o. either (λ (n : Notice). n ≡ no_notice) (eqb e.a i) (written e) (told k.standing i) (λ z. absurd (false≢true (sym o ∙ rw (← eqb-true e.a i z) asked.opened.0))) (λ z. s.shut i o);
      }

  lettered : (n : ℕ) → (n ≡ 2 → (account_at l e.a).opened ≡ false) → (n ≡ 12 → Asked l e) → (n ≡ 12 → meets l e ≡ ltb 0 (length (met e k.standing))) → Lettered n (standing_of n)
  lettered =
      by (λ n. (n ≡ 2 → (account_at l e.a).opened ≡ false) → (n ≡ 12 → Asked l e) → (n ≡ 12 → meets l e ≡ ltb 0 (length (met e k.standing))) → Lettered n (standing_of n))
      (λ shut asked same. enrolling (shut refl))
      (λ shut asked same. closing 8 refl refl)
      (λ shut asked same. closing 9 refl refl)
      (λ shut asked same. either (Lettered 12) (ltb 0 (length (met e k.standing))) (left e k.standing) _ (λ z. second (same refl ∙ z) z) (λ z. first (same refl ∙ z) (asked refl)))
      (λ n d2 d8 d9 d12 shut asked same. same_letters n d2 d8 d9 d12)
    where
      by : (P : ℕ → Type 0) → P 2 → P 8 → P 9 → P 12 → ((n : ℕ) → eqb n 2 ≡ false → eqb n 8 ≡ false → eqb n 9 ≡ false → eqb n 12 ≡ false → P n) → (n : ℕ) → P n
      by P p2 p8 p9 p12 others n = at_kind P n 2 p2 (λ d2. at_kind P n 8 p8 (λ d8. at_kind P n 9 p9 (λ d9. at_kind P n 12 p12 (λ d12. others n d2 d8 d9 d12))))

  pub reached_next : Reached next (after k x)
  unfolding after standing_after closes completes entry
  reached_next =
      let ls = lettered e.kind t.letters.enrols t.letters.asked seen in
      record {
        sound = t.sound;
        rated = λ _. t.retainage ∙ known (eqb e.kind 1) refl;
        orderly = ls.orderly;
        stands = λ i. t.letters.notices i ∙ ls.stands i;
        shut = λ i o. ls.shut i (sym (t.letters.opens i) ∙ o);
      }
    where
      known : (first : Bool) → eqb e.kind 1 ≡ first → cond first e.w4 l.terms.retainage ≡ cond first e.w4 k.retainage
      known true z = refl
      known false z = s.rated (t.started z)

-- what an accepted line adds, term by term
pub record Counted (l : Ledger) (k : Known) (x : Line) (next : Ledger) : Type 0 where
  pub reached : Reached next (after k x)
  pub banks : (i : ℕ) → bank_of next i ≡ bank_of l i +ℤ moved i k x
  pub debts : (i : ℕ) → owed_of next i ≡ owed_of l i +ℤ billed i k x
  pub days : (i : ℕ) → days_of next i ≡ days_of l i +ℤ violated i k x
  pub balances : of_all transferred_to k x ≡ of_all transferred_from k x

pub counted : (l : Ledger) (k : Known) (x : Line) (next : Ledger) → Reached l k → Taken l (entry_of x.bytes) x.answer next → Counted l k x next
unfolding owed_of days_of billed violated reported closes entry
counted l k x next s t =
    record {
      reached = reached_next l k x next s t;
      banks = λ i. t.banks i ∙ ap (λ (z : ℤ). bank_of l i +ℤ z) (sym (moved_is k x l i (λ is. s.rated (t.started (ne_eqb (entry_of x.bytes).kind 1 (λ z. omega (arith, z, is))))) (seen l k x next s t)));
      debts = t.debts;
      days = t.days;
      balances = balanced k x (⊎_elim t.parties (λ z. ((t.letters.asked z).writer, (t.letters.asked z).other)));
    }
