-- The reader: it checks a whole file before it gives any part of it.
use Rattle.std.specs.Prelude.{ℕ, zero, suc, ◌+◌, ◌*◌, ◌%◌, Bool, true, false, cond, not, ◌&&◌, ◌||◌, eqb, ltb, List, [], ◌∷◌, ◌++◌, map, length, get_or, take, drop}
use Rattle.archive.specs.Structs.{Checked, Place}
use Rattle.ledger.specs.Forms.{form_number}
use Rattle.ledger.specs.Entries.{half_at, word_at}
use Rattle.archive.specs.Entries.{entries_of, closes_month, finding, first_refusal}
use Rattle.archive.specs.Layout.{most_bytes, most_sections, opening_bytes, body_at}

-- ---- 8: the head

-- R71: N.
unfoldable pub section_count : List ℕ → ℕ
section_count a = half_at a 4

-- R71: the first four bytes are those of an old archive, or of a new one.
unfoldable pub opens_as : Bool → List ℕ → Bool
opens_as new a =
    eqb (get_or a 0 0) (get_or (opening_bytes new) 0 0)
    && eqb (get_or a 1 0) (get_or (opening_bytes new) 1 0)
    && eqb (get_or a 2 0) (get_or (opening_bytes new) 2 0)
    && eqb (get_or a 3 0) (get_or (opening_bytes new) 3 0)

-- R71: either will do.
unfoldable pub right_opening : List ℕ → Bool
right_opening a = opens_as false a || opens_as true a

-- R87: an archive is new by its first four bytes, whatever follows; this is asked of refused ones too, and of fewer bytes.
unfoldable pub is_new : List ℕ → Bool
is_new a = opens_as true a

-- R71: everything that gets 8; past it the whole directory lies in the file.
unfoldable pub wrong_header : List ℕ → Bool
wrong_header a =
    ltb (length a) 8
    || ltb most_bytes (length a)
    || not (right_opening a)
    || not (eqb (get_or a 6 0) 0)
    || not (eqb (get_or a 7 0) 0)
    || ltb most_sections (section_count a)
    || ltb (length a) (body_at (section_count a))

-- ---- 9: the directory

-- R72: a section's offset and length.
abbrev pub Pair : Type 0
Pair = ℕ × ℕ

-- R72: pair i.
unfoldable pub pair_at : List ℕ → ℕ → Pair
pair_at a i = (word_at a (8 + 8 * i), word_at a (12 + 8 * i))

-- R72: n pairs from pair i on, and all of them.
unfoldable pub pairs_from : List ℕ → ℕ → ℕ → List Pair
pairs_from a i zero = []
pairs_from a i (suc n) = pair_at a i ∷ pairs_from a (i + 1) n

unfoldable pub pairs_of : List ℕ → List Pair
pairs_of a = pairs_from a 0 (section_count a)

-- R72: a pair by itself, as eight bytes.
unfoldable pub pair_in : List ℕ → Pair
pair_in bytes = (word_at bytes 0, word_at bytes 4)

-- R72: whole entries, at least one.
unfoldable pub right_length : ℕ → Bool
right_length n = ltb 0 n && eqb (n % 32) 0

-- R72: sections follow one another without gap or overlap up to the file's end, so no byte of a file is left unread.
unfoldable pub right_pairs : ℕ → ℕ → List Pair → Bool
right_pairs file_end end [] = eqb end file_end
right_pairs file_end end (p ∷ ps) = (eqb p.0 end && right_length p.1) && right_pairs file_end (end + p.1) ps

-- R72: the directory of a file.
unfoldable pub right_directory : List ℕ → Bool
right_directory a = right_pairs (length a) (body_at (section_count a)) (pairs_of a)

-- ---- 10: the entries of the sections

-- R73: the bytes at a pair, and at every pair.
unfoldable pub part_at : List ℕ → Pair → List ℕ
part_at a p = take p.1 (drop p.0 a)

unfoldable pub parts_of : List ℕ → List (List ℕ)
parts_of a = map (part_at a) (pairs_of a)

-- R73: a section is cut in the wrong place; `ends` says that the entry is its section's last, `final` that the section is the last.
unfoldable pub misplaced : Bool → Bool → List ℕ → Bool
misplaced ends final e = cond (closes_month e) (not ends) (ends && not final)

-- R73: the number of an entry, 2 to 7 before 10.
unfoldable pub number_in : Bool → Bool → Bool → List ℕ → ℕ
number_in new ends final e = cond (eqb (form_number new e) 0) (cond (misplaced ends final e) 10 0) (form_number new e)

-- R73: the numbers of a section's entries.
unfoldable pub numbers_in : Bool → Bool → List (List ℕ) → List ℕ
numbers_in new final [] = []
numbers_in new final (e ∷ es) = number_in new (eqb (length es) 0) final e ∷ numbers_in new final es

-- R73: and of all sections, in file order.
unfoldable pub numbers_of : Bool → List (List ℕ) → List ℕ
numbers_of new [] = []
numbers_of new (s ∷ ss) = numbers_in new (eqb (length ss) 0) (entries_of s) ++ numbers_of new ss

-- ---- the reader's answers

-- R73: 8, then 9, then the first entry at fault, by the rules that the archive says it is of (R87).
unfoldable pub checked : List ℕ → Checked
checked a =
    cond (wrong_header a) (finding 8 0)
    (cond (right_directory a) (first_refusal 0 (numbers_of (is_new a) (parts_of a)))
    (finding 9 0))

-- R74: a refusal gives an empty part.
unfoldable pub nowhere : ℕ → ℕ → Place
nowhere number index = record { number = number; index = index; start = 0; length = 0 }

-- R74: where section i lies; 13 comes only of an archive without fault.
unfoldable pub place_of : List ℕ → ℕ → Place
place_of a i =
    cond (eqb (checked a).number 0)
    (cond (ltb i (section_count a))
    (record { number = 0; index = 0; start = (pair_at a i).0; length = (pair_at a i).1 })
    (nowhere 13 0))
    (nowhere (checked a).number (checked a).index)

-- R74: the section, as bytes of the file itself.
unfoldable pub section_at : List ℕ → ℕ → List ℕ
section_at a i = take (place_of a i).length (drop (place_of a i).start a)

-- R74: all entries, in file order: what follows the directory.
unfoldable pub list_of : List ℕ → List ℕ
list_of a = drop (body_at (section_count a)) a
