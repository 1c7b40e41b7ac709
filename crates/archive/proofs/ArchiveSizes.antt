-- Header, directory and list each begin where the one before it ends, so their lengths add up and the three concatenated are the archive.
use native.Mathlib.Omega.{arith}
use Prim.Native.Nat.{ℕ, ◌+◌, ◌*◌, ◌%◌}
use mathlib.Core.Path.{◌≡◌, refl, sym, ap, ◌∙◌}
use mathlib.Core.Bool.{Bool}
use mathlib.Core.List.{List, ◌++◌}
use lib.ListN.{length, drop, length-append}
use lib.Seq.{paste, take_at, take_all, drop-drop, drop-append-add}
use Rattle.archive.specs.Entries.{entries_of}
use Rattle.archive.specs.Layout.{sections_of, concatenated, header, directory, body_at, packed, archive_of}
use Rattle.archive.proofs.EntryLists.{together_all}
use Rattle.archive.proofs.Partitions.{together_sections}
use Rattle.archive.proofs.Headers.{length_header}
use Rattle.archive.proofs.Directories.{length_directory}
use Rattle.archive.proofs.Packing.{length_packed}

pub sections_all : (list : List ℕ) → length list % 32 ≡ 0 → concatenated (sections_of (entries_of list)) ≡ list
sections_all list h = together_sections (entries_of list) ∙ together_all list h

pub length_archive : (new : Bool) (list : List ℕ) → length list % 32 ≡ 0 → length (archive_of new list) ≡ 8 + 8 * length (sections_of (entries_of list)) + length list
unfolding archive_of body_at
length_archive new list h = rw (length_packed, sections_all list h)

-- a copy that goes on where the one before it ended
appended : (d s t : List ℕ) (i m : ℕ) → length s ≡ i → length t ≡ m → paste (s ++ drop i d) i t m ≡ s ++ t ++ drop (i + m) d
appended d s t i m e f =
    let rest : drop (i + m) (s ++ drop i d) ≡ drop (i + m) d = ap (λ (k : ℕ). drop (k + m) (s ++ drop i d)) (sym e) ∙ drop-append-add s (drop i d) m ∙ drop-drop m i d in
    rw (take_at s (drop i d) i e, take_all m t (omega arith), rest)

archive_parts : (new : Bool) (list : List ℕ) (count : ℕ) → length list % 32 ≡ 0 → count ≡ length (sections_of (entries_of list)) → header new count ++ directory (body_at count) (sections_of (entries_of list)) ++ list ≡ archive_of new list
unfolding archive_of packed
archive_parts new list count h n =
    cc (sections_all list h)

pub all_put : (new : Bool) (list d x y z : List ℕ) (count : ℕ) → length list % 32 ≡ 0 → count ≡ length (sections_of (entries_of list))
    → x ≡ paste d 0 (header new count) 8 → y ≡ paste x 8 (directory (body_at count) (sections_of (entries_of list))) (8 * count) → z ≡ paste y (8 + 8 * count) list (length list)
    → z ≡ archive_of new list ++ drop (length (archive_of new list)) d
all_put new list d x y z count h n hx hy hz =
    let ss = sections_of (entries_of list) in
    let head = header new count in
    let pairs = directory (body_at count) ss in
    let long : length pairs ≡ 8 * count = length_directory (body_at count) ss ∙ ap (λ (k : ℕ). 8 * k) (sym n) in
    let one : x ≡ head ++ drop 8 d = hx ∙ ap (λ (l : List ℕ). l ++ drop 8 d) (take_all 8 head (omega (arith, length_header new count))) in
    let two : y ≡ head ++ pairs ++ drop (8 + 8 * count) d = hy ∙ ap (λ (l : List ℕ). paste l 8 pairs (8 * count)) one ∙ appended d head pairs 8 (8 * count) (length_header new count) long in
    let front : length (head ++ pairs) ≡ 8 + 8 * count = length-append head pairs ∙ omega (arith, length_header new count) in
    let three : z ≡ head ++ pairs ++ list ++ drop (8 + 8 * count + length list) d = hz ∙ ap (λ (l : List ℕ). paste l (8 + 8 * count) list (length list)) two ∙ appended d (head ++ pairs) list (8 + 8 * count) (length list) front refl in
    let all : 8 + 8 * count + length list ≡ length (archive_of new list) = omega (arith, length_archive new list h) in
    three
    ∙ ap (λ (l : List ℕ). l ++ drop (8 + 8 * count + length list) d) (archive_parts new list count h n)
    ∙ ap (λ (k : ℕ). archive_of new list ++ drop k d) all
