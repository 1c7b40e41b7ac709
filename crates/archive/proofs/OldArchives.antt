-- The fourth byte is all that tells an old archive from a new one, and the reader judges each entry by it.
use borrow.Author.Tests.{ltb-true, ltb-false}
use native.Mathlib.Nat.{zero-add}
use native.Mathlib.Omega.{arith}
use Prim.Native.Nat.{ℕ, zero, suc, ◌+◌, ◌-◌, ◌/◌, ◌<◌, ◌≤◌}
use mathlib.Core.Path.{◌≡◌, refl, sym, ap, ap₂, ◌∙◌}
use mathlib.Core.Bool.{Bool, true, false, cond, false≢true}
use mathlib.Core.List.{List, [], ◌∷◌, ◌++◌}
use lib.Dec.{eqb, ltb}
use lib.ListN.{length, get_or, length-append, get_or-append}
use lib.Seq.{get_or-append-add}
use Rattle.ledger.specs.Entries.{entry_of}
use Rattle.ledger.specs.OldAndNew.{is_old_kind}
use Rattle.ledger.proofs.OldKinds.{old_form}
use Rattle.archive.specs.Entries.{entries_of, finding}
use Rattle.archive.specs.Layout.{archive_of, concatenated, header, packed, sections_of}
use Rattle.archive.specs.Reading.{is_new, right_directory, parts_of, number_in, numbers_in, numbers_of, checked, list_of}
use Rattle.archive.specs.OldAndNew.{FourthByteTells, OneByteApart, OldIsNotNew, OldKindsOnly, LaterKindsRefused, has_old_kind}
use Rattle.archive.proofs.Acceptance.{Readable, checked_tells}
use Rattle.archive.proofs.Headers.{header_checked, opened}
use Rattle.archive.proofs.Packing.{kind_packed, list_parts, parts_good}
use Rattle.archive.proofs.EntryLists.{entries_of_append, entry_whole, length_entries}
use Rattle.archive.proofs.Numbering.{length_numbers}
use Rattle.archive.proofs.Partitions.{Good, no_entries}
use Rattle.archive.proofs.Refusals.{first_found, zero_at}

pub fourth_byte_tells : FourthByteTells
fourth_byte_tells a h = tells (is_new a) (get_or a 3 0) (opened a (header_checked a (checked_tells a h).headed).opens).3
  where
    tells : (new : Bool) (fourth : ℕ) → fourth ≡ cond new 50 49 → (new ≡ eqb fourth 50) × (new ≡ false → fourth ≡ 49)
    tells true fourth e = (rw e, λ z. absurd (false≢true (sym z)))
    tells false fourth e = (rw e, λ _. e)

pub one_byte_apart : OneByteApart
unfolding archive_of packed header
one_byte_apart list = refl

archive_kind : (new : Bool) (list : List ℕ) → is_new (archive_of new list) ≡ new
unfolding archive_of
archive_kind new list = kind_packed new (sections_of (entries_of list))

pub old_is_not_new : OldIsNotNew
old_is_not_new list other e = false≢true (sym (archive_kind false list) ∙ ap is_new e ∙ archive_kind true other)

-- ---- an entry of a later kind

-- the number of each, in its section and in the file
abbrev Later : List ℕ → Type 0
Later e = (length e ≡ 32) × (is_old_kind (entry_of e).kind ≡ false)

in_section : (final : Bool) (es : List (List ℕ)) (k : ℕ) → k < length es → Later (get_or es k []) → get_or (numbers_in false final es) k 0 ≡ 2
unfolding numbers_in number_in
in_section final [] k h l = absurd (omega arith)
in_section final (e ∷ es) zero h l = rw (old_form e l.0 l.1)
in_section final (e ∷ es) (suc k) h l = in_section final es k (omega arith) l

in_file : (ss : List (List ℕ)) → Good ss → (k : ℕ) → k < length (entries_of (concatenated ss)) → Later (get_or (entries_of (concatenated ss)) k []) → get_or (numbers_of false ss) k 0 ≡ 2
unfolding numbers_of concatenated
in_file [] g k h l = absurd (omega (arith, ap length no_entries))
in_file (s ∷ ss) g k h l = go (ltb k (length (entries_of s))) refl (in_file ss g.1)
  where
    here : List (List ℕ)
    here = entries_of s

    rest : List (List ℕ)
    rest = entries_of (concatenated ss)

    both : entries_of (s ++ concatenated ss) ≡ here ++ rest
    both = entries_of_append s (concatenated ss) g.0.whole

    numbers : List ℕ
    numbers = numbers_in false (eqb (length ss) 0) here

    as_long : length numbers ≡ length here
    as_long = length_numbers false (eqb (length ss) 0) here

    go : (t : Bool) → ltb k (length here) ≡ t → ((m : ℕ) → m < length rest → Later (get_or rest m []) → get_or (numbers_of false ss) m 0 ≡ 2) → get_or (numbers ++ numbers_of false ss) k 0 ≡ 2
    go true t later =
        let less : k < length here = ltb-true k (length here) t in
        get_or-append numbers (numbers_of false ss) 0 k (omega (arith, as_long))
        ∙ in_section (eqb (length ss) 0) here k less (rw (ap (λ (es : List (List ℕ)). get_or es k []) both ∙ get_or-append here rest [] k less) at l)
    go false t later =
        let more : length here ≤ k = ltb-false k (length here) t in
        let m : ℕ = k - length here in
        let at : k ≡ length here + m = omega arith in
        let past : get_or (entries_of (s ++ concatenated ss)) k [] ≡ get_or rest m [] = ap₂ (λ (es : List (List ℕ)) (j : ℕ). get_or es j []) both at ∙ get_or-append-add here rest m [] in
        let fits : m < length rest = omega (arith, ap length both, length-append here rest) in
        ap (λ (j : ℕ). get_or (numbers ++ numbers_of false ss) j 0) (at ∙ ap (λ (n : ℕ). n + m) (sym as_long))
        ∙ get_or-append-add numbers (numbers_of false ss) m 0
        ∙ later m fits (rw past at l)

module _ (a : List ℕ) (k : ℕ) (directed : right_directory a ≡ true) (h : k < length (entries_of (list_of a))) where
  entry_is_whole : length (get_or (entries_of (list_of a)) k []) ≡ 32
  unfolding entries_of
  entry_is_whole = entry_whole (length (list_of a) / 32) k (list_of a) (omega (arith, length_entries (length (list_of a) / 32) (list_of a))) (omega arith)

  later_number : has_old_kind a k ≡ false → get_or (numbers_of false (parts_of a)) k 0 ≡ 2
  unfolding has_old_kind
  later_number l =
      let all : concatenated (parts_of a) ≡ list_of a = list_parts a directed in
      in_file (parts_of a) (parts_good a directed) k (rw all h) (rw all (entry_is_whole, l))

pub old_kinds_only : OldKindsOnly
old_kinds_only a k z o h =
    let r : Readable a = checked_tells a z in
    go (has_old_kind a k) refl (λ l. later_number a k r.directed h l) (zero_at (numbers_of false (parts_of a)) k (rw o at r.zeros))
  where
    go : (t : Bool) → has_old_kind a k ≡ t → (has_old_kind a k ≡ false → get_or (numbers_of false (parts_of a)) k 0 ≡ 2) → get_or (numbers_of false (parts_of a)) k 0 ≡ 0 → has_old_kind a k ≡ true
    go true e two none = e
    go false e two none = absurd (omega (arith, two e, none))

pub later_kinds_refused : LaterKindsRefused
unfolding checked
later_kinds_refused a k headed directed o h l before =
    rw (headed, directed, o) (first_found 0 k (numbers_of false (parts_of a)) 2 before (later_number a k directed h l) (λ z. omega (arith, z)) ∙ ap (finding 2) (zero-add k))
