-- The writer: it checks list and room before it writes a byte.
use Rattle.std.specs.Prelude.{ℕ, ◌%◌, Bool, cond, ◌||◌, eqb, ltb, List, ◌++◌, map, length, drop}
use Rattle.archive.specs.Structs.{Checked, Written}
use Rattle.ledger.specs.Forms.{form_number}
use Rattle.archive.specs.Entries.{entries_of, first_refusal}
use Rattle.archive.specs.Layout.{most_bytes, most_sections, sections_of, archive_of}

-- R75: the first entry that gets 2 to 7; the kinds of an old list are those of the old rules (R84).
unfoldable pub list_checked : Bool → List ℕ → Checked
list_checked new list = first_refusal 0 (map (form_number new) (entries_of list))

-- R75: more sections or bytes than the reader would take (R71).
unfoldable pub too_large : Bool → List ℕ → Bool
too_large new list = ltb most_sections (length (sections_of (entries_of list))) || ltb most_bytes (length (archive_of new list))

-- R75: a refusal has no length.
unfoldable pub unwritten : ℕ → ℕ → Written
unwritten number index = record { number = number; index = index; length = 0 }

-- R75: 1, then 2 to 7, 11 and 12, given the output's length. The writer is told whether the archive is to be old or new.
unfoldable pub written : Bool → List ℕ → ℕ → Written
written new list room =
    cond (eqb (length list % 32) 0)
    (cond (eqb (list_checked new list).number 0)
    (cond (too_large new list) (unwritten 11 0)
    (cond (ltb room (length (archive_of new list))) (unwritten 12 0)
    (record { number = 0; index = 0; length = length (archive_of new list) })))
    (unwritten (list_checked new list).number (list_checked new list).index))
    (unwritten 1 0)

-- R75: the archive at the output's start and the rest as it was; a refusal writes nothing.
unfoldable pub output_after : Bool → List ℕ → List ℕ → List ℕ
output_after new list out =
    cond (eqb (written new list (length out)).number 0) (archive_of new list ++ drop (length (archive_of new list)) out) out
