-- The reader's number of an entry is 0 just where its form is right and its place in its section too: it is asked for the one, then for the other.
use borrow.Author.Tests.{eqb-true, eqb-false, not-false}
use native.Mathlib.Omega.{arith}
use Prim.Native.Nat.{ℕ}
use mathlib.Core.Path.{◌≡◌, refl, ap}
use mathlib.Core.Bool.{Bool, true, false, cond, not, ◌&&◌}
use mathlib.Core.List.{List, [], ◌∷◌}
use lib.Dec.{eqb}
use lib.ListN.{length}
use lib.Seq.{take_all}
use Rattle.ledger.specs.Forms.{form_number}
use Rattle.archive.specs.Entries.{first_entries, entries_of, closes_month}
use Rattle.archive.specs.Reading.{misplaced, number_in}

-- ---- an entry alone

pub one_entry : (e : List ℕ) → length e ≡ 32 → entries_of e ≡ e ∷ []
unfolding entries_of first_entries
one_entry e h = rw h (ap (λ (l : List ℕ). l ∷ []) (take_all 32 e (omega arith)))

-- ---- an entry's number: 0 where its form is right and its place too

number_case : (n : ℕ) (b m : Bool) → eqb n 0 ≡ b → cond b (cond m 10 0) n ≡ 0 → (n ≡ 0) × (m ≡ false)
number_case n true true e h = absurd (omega arith)
number_case n true false e h = (eqb-true n 0 e, refl)
number_case n false m e h = absurd (eqb-false n 0 e h)

pub number_parts : (new : Bool) (ends final : Bool) (e : List ℕ) → number_in new ends final e ≡ 0 → (form_number new e ≡ 0) × (misplaced ends final e ≡ false)
unfolding number_in
number_parts new ends final e h = number_case (form_number new e) (eqb (form_number new e) 0) (misplaced ends final e) refl h

-- ---- its place

within_case : (c : Bool) (final : Bool) → cond c (not false) (false && not final) ≡ false → c ≡ false
within_case true final h = h
within_case false final h = refl

pub within_other : (final : Bool) (e : List ℕ) → misplaced false final e ≡ false → closes_month e ≡ false
unfolding misplaced
within_other final e h = within_case (closes_month e) final h

-- only the last section ends otherwise
pub ends_final : (final : Bool) (e : List ℕ) → misplaced true final e ≡ false → closes_month e ≡ false → final ≡ true
unfolding misplaced
ends_final final e h k = not-false final (rw k at h)
