-- The first refusal of the entries from k on is that of the list, as all before them passed: entry k has it, or passes too.
use native.Mathlib.Omega.{arith}
use Prim.Native.Nat.{ℕ, suc, ◌+◌, ◌-◌, ◌<◌, ◌≤◌}
use mathlib.Core.Path.{◌≡◌, refl, ◌∙◌, sym}
use mathlib.Core.Bool.{Bool, false}
use mathlib.Core.List.{List, [], ◌∷◌}
use lib.Dec.{eqb}
use lib.ListN.{length, get_or, drop, length-drop}
use lib.Seq.{drop-cons}
use Rattle.ledger.proofs.Refused.{refuses}
use Rattle.archive.specs.declared.faults.Fault.{Fault}
use Rattle.archive.specs.declared.faults.Fault.TheVariants as fault
use Rattle.archive.specs.Faults.{fault_number}
use Rattle.archive.specs.Entries.{finding, first_refusal, numbers_by}
use Rattle.archive.proofs.Findings.{last_one}

-- no fault has the number 0
pub fault_refuses : (f : Fault) → eqb (fault_number f) 0 ≡ false
unfolding fault_number
fault_refuses fault.InPieces = refl
fault_refuses (fault.Entry r) = refuses r
fault_refuses fault.WrongHeader = refl
fault_refuses fault.WrongDirectory = refl
fault_refuses fault.Misplaced = refl
fault_refuses fault.TooLarge = refl
fault_refuses fault.NoRoom = refl
fault_refuses fault.NoSuchSection = refl

-- the numbers from entry k on, as a loop meets them
numbers_more : (number : Bool → List ℕ → ℕ) (xs ys : List (List ℕ)) (x : List ℕ) → xs ≡ x ∷ ys → numbers_by number xs ≡ number (eqb (length ys) 0) x ∷ numbers_by number ys
unfolding numbers_by
numbers_more number xs ys x e = rw e

numbers_next : (number : Bool → List ℕ → ℕ) (es : List (List ℕ)) (k : ℕ) (d : List ℕ) → k < length es
    → numbers_by number (drop k es) ≡ number (eqb (k + 1) (length es)) (get_or es k d) ∷ numbers_by number (drop (k + 1) es)
numbers_next number es k d h =
    let j : suc k ≡ k + 1 = omega arith in
    let next : drop k es ≡ get_or es k d ∷ drop (k + 1) es = rw j at (drop-cons es k d h) in
    let left : length (drop (k + 1) es) ≡ length es - (k + 1) = length-drop (k + 1) es in
    numbers_more number (drop k es) (drop (k + 1) es) (get_or es k d) next ∙ rw (left, last_one (length es) k h)

numbers_end : (number : Bool → List ℕ → ℕ) (es : List (List ℕ)) (k : ℕ) → length es ≤ k → numbers_by number (drop k es) ≡ []
unfolding numbers_by
numbers_end number es k h = go (drop k es) (rw length-drop (omega arith))
  where
    go : (xs : List (List ℕ)) → length xs ≡ 0 → numbers_by number xs ≡ []
    go [] e = refl
    go (x ∷ xs) e = absurd (omega arith)

module _ (number : Bool → List ℕ → ℕ) (es : List (List ℕ)) (first k : ℕ)
    (r : first_refusal (first + k) (numbers_by number (drop k es)) ≡ first_refusal first (numbers_by number es)) where
  pub none_refused : length es ≤ k → first_refusal first (numbers_by number es) ≡ finding 0 0
  unfolding first_refusal
  none_refused h = sym (rw (numbers_end number es k h) at r)

  module _ (d : List ℕ) (more : k < length es) where
    pub entry_refused : (f : Fault) → number (eqb (k + 1) (length es)) (get_or es k d) ≡ fault_number f → first_refusal first (numbers_by number es) ≡ finding (fault_number f) (first + k)
    unfolding first_refusal
    entry_refused f e = sym (rw (numbers_next number es k d more, e, fault_refuses f) at r)

    pub entry_passed : number (eqb (k + 1) (length es)) (get_or es k d) ≡ 0 → first_refusal (first + (k + 1)) (numbers_by number (drop (k + 1) es)) ≡ first_refusal first (numbers_by number es)
    unfolding first_refusal
    entry_passed e = let j : first + k + 1 ≡ first + (k + 1) = omega arith in rw j at (rw (numbers_next number es k d more, e) at r)
