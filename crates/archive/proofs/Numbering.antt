-- A section's numbers are its first entry's, then the others'; a file's are its first section's, then the others'. So what is left after k has one section less.
use borrow.Author.Tests.{eqb-false}
use native.Mathlib.Nat.{add-sub_cancel_left}
use native.Mathlib.Omega.{arith}
use Prim.Native.Nat.{ℕ, suc, ◌+◌, ◌*◌, ◌-◌, ◌/◌, ◌<◌, ◌≤◌}
use mathlib.Core.Path.{◌≡◌, refl, ap, sym, ◌∙◌}
use mathlib.Core.Bool.{Bool, true, false}
use mathlib.Core.List.{List, [], ◌∷◌, ◌++◌, map}
use lib.Dec.{eqb}
use lib.ListN.{length, get_or, take, drop, length-map, length-drop}
use lib.Seq.{length-take-le}
use Rattle.archive.specs.Entries.{entries_of, finding, first_refusal, numbers_by}
use Rattle.archive.specs.Faults.{fault_number}
use Rattle.archive.specs.declared.faults.Fault.{Fault}
use Rattle.archive.specs.Layout.{body_at}
use Rattle.archive.specs.Structs.{Checked}
use Rattle.archive.specs.Reading.{Pair, pair_in, part_at, parts_of, pairs_of, number_in, numbers_in, numbers_of, right_pairs, right_directory, section_count, checked, is_new, opens_as, wrong_header}
use Rattle.archive.proofs.EntryLists.{length_entries}
use Rattle.archive.proofs.Findings.{refusal_past, refusal_within}
use Rattle.archive.proofs.FirstFaults.{fault_refuses}
use Rattle.archive.proofs.Pairs.{Held, first_held, last_pair, pairs_left, pairs_done, right_start, right_rest}

pub length_numbers : (new final : Bool) (es : List (List ℕ)) → length (numbers_in new final es) ≡ length es
unfolding numbers_in
length_numbers new final [] = refl
length_numbers new final (e ∷ es) = ap suc (length_numbers new final es)

-- what the entries of a section are asked
pub numbers_section : (new final : Bool) (es : List (List ℕ)) → numbers_by (λ ends e. number_in new ends final e) es ≡ numbers_in new final es
unfolding numbers_by numbers_in
numbers_section new final [] = refl
numbers_section new final (e ∷ es) = ap (λ ns. number_in new (eqb (length es) 0) final e ∷ ns) (numbers_section new final es)

length_by : (number : Bool → List ℕ → ℕ) (es : List (List ℕ)) → length (numbers_by number es) ≡ length es
unfolding numbers_by
length_by number [] = refl
length_by number (e ∷ es) = ap suc (length_by number es)

-- the sections from pair k on, the first of them beginning at `end`, with its first entry having the index `first`
pub record CheckedSoFar (a : List ℕ) (ps : List (List ℕ)) (k : ℕ) (new : Bool) (first : ℕ) : Type 0 where
  pub end : ℕ
  pub right : right_pairs (length a) end (map pair_in (drop k ps)) ≡ true
  pub small : 32 * first ≤ end
  pub same : first_refusal first (numbers_of new (map (part_at a) (map pair_in (drop k ps)))) ≡ first_refusal 0 (numbers_of new (parts_of a))

pub checked_at_first : (a : List ℕ) (ps : List (List ℕ)) (new : Bool) → map pair_in ps ≡ pairs_of a → right_directory a ≡ true → CheckedSoFar a ps 0 new 0
unfolding right_directory parts_of
checked_at_first a ps new e h = record { end = body_at (section_count a); right = rw e h; small = omega arith; same = rw e }

-- the checks before them are passed
pub checked_entries : (a : List ℕ) (new : Bool) → wrong_header a ≡ false → right_directory a ≡ true → new ≡ opens_as true a → checked a ≡ first_refusal 0 (numbers_of new (parts_of a))
unfolding checked is_new
checked_entries a new h d e = rw (h, d, e)

module _ (a : List ℕ) (ps : List (List ℕ)) (k : ℕ) (new : Bool) (first : ℕ) (r : CheckedSoFar a ps k new first) where
  pub all_passed : length ps ≤ k → first_refusal 0 (numbers_of new (parts_of a)) ≡ finding 0 0
  unfolding numbers_of first_refusal
  all_passed h = sym (rw (pairs_done ps k h) at r.same)

  -- one section's turn
  module _ (d : List ℕ) (more : k < length ps) (o l : ℕ) (p : o ≡ (pair_in (get_or ps k d)).0) (q : l ≡ (pair_in (get_or ps k d)).1) where
    abbrev here : Pair
    here = pair_in (get_or ps k d)

    abbrev after : List Pair
    after = map pair_in (drop (k + 1) ps)

    right_here : right_pairs (length a) r.end (here ∷ after) ≡ true
    right_here = rw (pairs_left ps k d more) at r.right

    after_right : right_pairs (length a) (r.end + here.1) after ≡ true
    after_right = right_rest (length a) r.end here after right_here

    begins : o ≡ r.end
    begins = p ∙ right_start (length a) r.end here after right_here

    held : Held (length a) here
    held = first_held (length a) r.end here after right_here

    pub section_within : o + l ≤ length a
    section_within = rw (p, q) held.within

    last : eqb (o + l) (length a) ≡ eqb (length (map (part_at a) after)) 0
    last = rw (begins, q, length-map) (last_pair (length a) (r.end + here.1) after after_right)

    module _ (es : List (List ℕ)) (t : es ≡ entries_of (take (o + l - o) (drop o a))) where
      entries_here : es ≡ entries_of (part_at a here)
      unfolding part_at
      entries_here = t ∙ rw (add-sub_cancel_left o l, p, q)

      pub length_here : length es ≡ l / 32
      unfolding entries_of
      length_here = let size : length (take l (drop o a)) ≡ l = length-take-le l (drop o a) (rw length-drop (omega (arith, section_within))) in
          rw (t, add-sub_cancel_left o l, length_entries, size)

      pub entries_fit : 32 * (first + length es) ≤ length a
      entries_fit = omega (arith, section_within, begins, r, length_here)

      numbers_here : numbers_of new (map (part_at a) (here ∷ after)) ≡ numbers_by (λ ends e. number_in new ends (eqb (o + l) (length a)) e) es ++ numbers_of new (map (part_at a) after)
      unfolding numbers_of
      numbers_here = rw (numbers_section new (eqb (o + l) (length a)) es, last, entries_here)

      all_numbers : first_refusal first (numbers_by (λ ends e. number_in new ends (eqb (o + l) (length a)) e) es ++ numbers_of new (map (part_at a) after)) ≡ first_refusal 0 (numbers_of new (parts_of a))
      all_numbers = rw (pairs_left ps k d more, numbers_here) at r.same

      pub section_refused : (f : Fault) (i : ℕ) → first_refusal first (numbers_by (λ ends e. number_in new ends (eqb (o + l) (length a)) e) es) ≡ finding (fault_number f) i
          → first_refusal 0 (numbers_of new (parts_of a)) ≡ finding (fault_number f) i
      unfolding finding
      section_refused f i e = sym all_numbers ∙ refusal_within first _ _ (rw e (eqb-false (fault_number f) 0 (fault_refuses f))) ∙ e

      pub section_passed : first_refusal first (numbers_by (λ ends e. number_in new ends (eqb (o + l) (length a)) e) es) ≡ finding 0 0 → CheckedSoFar a ps (k + 1) new (first + length es)
      unfolding finding
      section_passed e =
          record {
            end = r.end + here.1;
            right = after_right;
            small = omega (arith, r, length_here, q);
            same = rw (← length_by (λ ends e. number_in new ends (eqb (o + l) (length a)) e) es) (sym (refusal_past first _ _ (ap (λ (c : Checked). c.number) e)) ∙ all_numbers);
          }
