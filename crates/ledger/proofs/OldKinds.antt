-- The table has a later version for every kind that the old rules do not name, so an old ledger and an old list find none there.
use Prim.Native.Nat.{ℕ, ◌≤◌}
use mathlib.Core.Path.{◌≡◌, refl, sym, ◌∙◌}
use mathlib.Core.Bool.{true, false, true≢false}
use mathlib.Core.List.{List}
use native.Mathlib.Omega.{arith}
use lib.Dec.{leb}
use lib.ListN.{length}
use borrow.Author.Tests.{eq-eqb, le-leb}
use Rattle.ledger.specs.Checks.{verdict}
use Rattle.ledger.specs.Kinds.{kind_of}
use Rattle.ledger.specs.Entries.{entry_of}
use Rattle.ledger.specs.Forms.{entry_checks, entry_number, form_number}
use Rattle.ledger.specs.OldAndNew.{is_old_kind}
use Rattle.ledger.specs.Posting.{admission, post_entry, posted}
use Rattle.ledger.specs.Answers.{refused}
use Rattle.ledger.specs.Structs.{Uses, Ledger}
use Rattle.ledger.proofs.KindCases.{done, each, ◌then◌}

within : (kind : ℕ) → 1 ≤ kind → kind ≤ 9 → is_old_kind kind ≡ true
unfolding is_old_kind
within kind h k = rw (le-leb 1 kind h, le-leb kind 9 k)

module _ (kind : ℕ) (h : is_old_kind kind ≡ false) where
  isnt : (n : ℕ) → 1 ≤ n → n ≤ 9 → kind ≡ n → ⊥
  isnt n p q is = absurd (true≢false (sym (within kind (omega arith) (omega arith)) ∙ h))

  pub later : leb (kind_of kind).since 1 ≡ false
  unfolding kind_of
  later =
      each (λ (k : Uses). leb k.since 1 ≡ false) kind _
      ((λ is. absurd (isnt 1 (omega arith) (omega arith) is))
      then (λ is. absurd (isnt 2 (omega arith) (omega arith) is))
      then (λ is. absurd (isnt 3 (omega arith) (omega arith) is))
      then (λ is. absurd (isnt 4 (omega arith) (omega arith) is))
      then (λ is. absurd (isnt 5 (omega arith) (omega arith) is))
      then (λ is. absurd (isnt 6 (omega arith) (omega arith) is))
      then (λ is. absurd (isnt 7 (omega arith) (omega arith) is))
      then (λ is. absurd (isnt 8 (omega arith) (omega arith) is))
      then (λ is. absurd (isnt 9 (omega arith) (omega arith) is))
      then (λ _. refl)
      then (λ _. refl)
      then (λ _. refl)
      then done)
      refl

-- the number of an entry, whatever is asked after it
module _ (b : List ℕ) (whole : length b ≡ 32) (h : is_old_kind (entry_of b).kind ≡ false) where
  pub old_form : form_number false b ≡ 2
  unfolding form_number entry_number entry_checks verdict
  old_form = rw (eq-eqb (length b) 32 whole, later (entry_of b).kind h)

  pub old_posted : (l : Ledger) → l.is_new ≡ false → posted l b ≡ refused l 2
  unfolding posted post_entry admission entry_checks verdict
  old_posted l o = rw (eq-eqb (length b) 32 whole, o, later (entry_of b).kind h)
