-- The writer cuts after each closing and the reader asks for closings just there: so what is cut passes, and what passes is cut so again.
use borrow.Author.Tests.{eqb-true, ne_eqb}
use native.Mathlib.Omega.{arith}
use Prim.Native.Nat.{ℕ, suc, ◌/◌, ◌%◌, ◌<◌}
use mathlib.Core.Path.{◌≡◌, refl, ap, ◌∙◌}
use mathlib.Core.Bool.{Bool, true, false, cond}
use mathlib.Core.List.{List, [], ◌∷◌, ◌++◌, map, map-append, append_assoc, append-nil}
use lib.Dec.{eqb, eqb-suc-zero}
use lib.ListN.{length, length-append}
use Rattle.ledger.specs.Forms.{form_number}
use Rattle.archive.specs.Entries.{first_entries, entries_of, closes_month}
use Rattle.archive.specs.Layout.{joined, sections_of, concatenated}
use Rattle.archive.specs.Reading.{misplaced, number_in, numbers_in, numbers_of}
use Rattle.archive.proofs.EntryLists.{length_entries, together_all, entries_of_append}
use Rattle.archive.proofs.Splits.{no_sections}
use Rattle.archive.proofs.Refusals.{Zeros, zeros_append, zeros_left, zeros_right}
use Rattle.ledger.proofs.Fields.{form_length}
use Rattle.archive.proofs.EntryNumbers.{one_entry, number_parts, within_other, ends_final}

-- ---- sections of whole entries, and not of none

pub record Sized (s : List ℕ) : Type 0 where
  pub some : 0 < length s
  pub whole : length s % 32 ≡ 0

abbrev pub Good : List (List ℕ) → Type 0
Good [] = Unit {0}
Good (s ∷ ss) = Sized s × Good ss

-- as the reader finds them right
pub record Sound (new : Bool) (ss : List (List ℕ)) : Type 0 where
  pub good : Good ss
  pub zeros : Zeros (numbers_of new ss)

count_entries : (s : List ℕ) → length (entries_of s) ≡ length s / 32
unfolding entries_of
count_entries s = length_entries (length s / 32) s

-- ---- the writer's sections

entry_sized : (e : List ℕ) → length e ≡ 32 → Sized e
entry_sized e h = record { some = omega arith; whole = rw h }

closed : (new : Bool) (e : List ℕ) (ss : List (List ℕ)) → closes_month e ≡ true → form_number new e ≡ 0 → Sound new ss → Sound new (e ∷ ss)
unfolding numbers_of numbers_in number_in misplaced
closed new e ss k f h =
    let size : length e ≡ 32 = form_length e new f in
    record {
      good = (entry_sized e size, h.good);
      zeros = rw (one_entry e size) (rw (f, k), h.zeros);
    }

joined_sized : (e s : List ℕ) → length e ≡ 32 → Sized s → Sized (e ++ s)
joined_sized e s h k = record { some = rw length-append (omega arith); whole = rw length-append (omega arith) }

joined_sound : (new : Bool) (e : List ℕ) (ss : List (List ℕ)) → closes_month e ≡ false → form_number new e ≡ 0 → Sound new ss → Sound new (joined e ss)
unfolding joined numbers_of numbers_in number_in misplaced
joined_sound new e [] k f h =
    let size : length e ≡ 32 = form_length e new f in
    record {
      good = (entry_sized e size, tt);
      zeros = rw (one_entry e size) (rw (f, k), tt);
    }
joined_sound new e (s ∷ ss) k f h =
    let size : length e ≡ 32 = form_length e new f in
    let split : entries_of (e ++ s) ≡ e ∷ entries_of s = entries_of_append e s (rw size) ∙ ap (λ (l : List (List ℕ)). l ++ entries_of s) (one_entry e size) in
    let more : eqb (length (entries_of s)) 0 ≡ false = ne_eqb (length (entries_of s)) 0 (λ z. omega (arith, count_entries s, h.good.0)) in
    record {
      good = (joined_sized e s size h.good.0, h.good.1);
      zeros = rw (split, more) (rw (f, k), h.zeros);
    }

cut_case : (new : Bool) (e : List ℕ) (ss : List (List ℕ)) (b : Bool) → closes_month e ≡ b → form_number new e ≡ 0 → Sound new ss → Sound new (cond b (e ∷ ss) (joined e ss))
cut_case new e ss true k f h = closed new e ss k f h
cut_case new e ss false k f h = joined_sound new e ss k f h

-- entries of the right form make sections that the reader finds right
pub cut_sound : (new : Bool) (es : List (List ℕ)) → Zeros (map (form_number new) es) → Sound new (sections_of es)
unfolding sections_of numbers_of
cut_sound new [] h = record { good = tt; zeros = tt }
cut_sound new (e ∷ es) h = cut_case new e (sections_of es) (closes_month e) refl h.0 (cut_sound new es h.1)

-- and lose nothing
joined_together : (e : List ℕ) (ss : List (List ℕ)) → concatenated (joined e ss) ≡ e ++ concatenated ss
unfolding joined concatenated
joined_together e [] = refl
joined_together e (s ∷ ss) = append_assoc e s (concatenated ss)

together_case : (e : List ℕ) (ss : List (List ℕ)) (b : Bool) → concatenated (cond b (e ∷ ss) (joined e ss)) ≡ e ++ concatenated ss
unfolding concatenated
together_case e ss true = refl
together_case e ss false = joined_together e ss

pub together_sections : (es : List (List ℕ)) → concatenated (sections_of es) ≡ concatenated es
unfolding sections_of concatenated
together_sections [] = refl
together_sections (e ∷ es) = together_case e (sections_of es) (closes_month e) ∙ ap (λ (l : List ℕ). e ++ l) (together_sections es)

-- ---- the reader's sections

-- the last entry of a section, and the sections after it
last_case : (e : List ℕ) (ss : List (List ℕ)) (b : Bool) → closes_month e ≡ b → misplaced true (eqb (length ss) 0) e ≡ false → cond b (e ∷ ss) (joined e ss) ≡ e ∷ ss
unfolding joined
last_case e ss true k m = refl
last_case e [] false k m = refl
last_case e (s ∷ ss) false k m = let z : suc (length ss) ≡ 0 = eqb-true (suc (length ss)) 0 (ends_final (eqb (suc (length ss)) 0) e m k) in absurd (omega arith)

-- the entries of a section, then others
section_first : (new : Bool) (e : List ℕ) (es fs ss : List (List ℕ)) → sections_of fs ≡ ss → Zeros (numbers_in new (eqb (length ss) 0) (e ∷ es)) → sections_of ((e ∷ es) ++ fs) ≡ concatenated (e ∷ es) ∷ ss
unfolding sections_of numbers_in concatenated joined
section_first new e [] fs ss q h =
    let m : misplaced true (eqb (length ss) 0) e ≡ false = (number_parts new true (eqb (length ss) 0) e h.0).1 in
    rw (q, append-nil e) (last_case e ss (closes_month e) refl m)
section_first new e (f ∷ es) fs ss q h =
    let k : closes_month e ≡ false = within_other (eqb (length ss) 0) e (number_parts new false (eqb (length ss) 0) e (rw (eqb-suc-zero (length es)) at h.0)).1 in
    rw k (ap (joined e) (section_first new f es fs ss q h.1))

pub no_entries : entries_of [] ≡ []
unfolding entries_of first_entries
no_entries = refl

-- the entries of a section are some
section_then : (new : Bool) (s : List ℕ) (fs ss es : List (List ℕ)) → Sized s → entries_of s ≡ es → sections_of fs ≡ ss → Zeros (numbers_in new (eqb (length ss) 0) es) → sections_of (es ++ fs) ≡ concatenated es ∷ ss
section_then new s fs ss [] g e q h = absurd (omega (arith, count_entries s, ap length e))
section_then new s fs ss (f ∷ es) g e q h = section_first new f es fs ss q h

-- sections that the reader finds right are those of their entries
pub sections_again : (new : Bool) (ss : List (List ℕ)) → Good ss → Zeros (numbers_of new ss) → sections_of (entries_of (concatenated ss)) ≡ ss
unfolding concatenated numbers_of
sections_again new [] g h = no_sections [] refl
sections_again new (s ∷ ss) g h =
    let here : Zeros (numbers_in new (eqb (length ss) 0) (entries_of s)) = zeros_left (numbers_in new (eqb (length ss) 0) (entries_of s)) (numbers_of new ss) h in
    let rest : sections_of (entries_of (concatenated ss)) ≡ ss = sections_again new ss g.1 (zeros_right (numbers_in new (eqb (length ss) 0) (entries_of s)) (numbers_of new ss) h) in
    ap sections_of (entries_of_append s (concatenated ss) g.0.whole)
    ∙ section_then new s (entries_of (concatenated ss)) ss (entries_of s) g.0 refl rest here
    ∙ ap (λ (l : List ℕ). l ∷ ss) (together_all s g.0.whole)

forms_in : (new : Bool) (final : Bool) (es : List (List ℕ)) → Zeros (numbers_in new final es) → Zeros (map (form_number new) es)
unfolding numbers_in
forms_in new final [] h = tt
forms_in new final (e ∷ es) h = ((number_parts new (eqb (length es) 0) final e h.0).0, forms_in new final es h.1)

-- and these are of the right form
pub forms_right : (new : Bool) (ss : List (List ℕ)) → Good ss → Zeros (numbers_of new ss) → Zeros (map (form_number new) (entries_of (concatenated ss)))
unfolding concatenated numbers_of
forms_right new [] g h = rw no_entries tt
forms_right new (s ∷ ss) g h =
    let final : Bool = eqb (length ss) 0 in
    rw (entries_of_append s (concatenated ss) g.0.whole, map-append)
    (zeros_append (map (form_number new) (entries_of s)) (map (form_number new) (entries_of (concatenated ss))) (forms_in new final (entries_of s) (zeros_left (numbers_in new final (entries_of s)) (numbers_of new ss) h))
    (forms_right new ss g.1 (zeros_right (numbers_in new final (entries_of s)) (numbers_of new ss) h)))

-- their bytes are whole entries
pub together_whole : (ss : List (List ℕ)) → Good ss → length (concatenated ss) % 32 ≡ 0
unfolding concatenated
together_whole [] g = refl
together_whole (s ∷ ss) g = rw length-append (omega (arith, together_whole ss g.1, g.0.whole))
