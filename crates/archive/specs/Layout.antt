-- The bytes of an archive: a head, a directory of sections, and the sections.
use Rattle.std.specs.Prelude.{ℕ, ◌+◌, ◌*◌, Bool, cond, List, [], ◌∷◌, ◌++◌, length}
use Rattle.archive.specs.Words.{bytes_of}
use Rattle.archive.specs.Entries.{entries_of, closes_month}

-- ---- sections

-- R69: an entry put before the first of some sections, as a part of it.
unfoldable pub joined : List ℕ → List (List ℕ) → List (List ℕ)
joined e [] = e ∷ []
joined e (s ∷ ss) = (e ++ s) ∷ ss

-- R69: a section for each month closed, and one for what follows the last of them.
unfoldable pub sections_of : List (List ℕ) → List (List ℕ)
sections_of [] = []
sections_of (e ∷ es) = cond (closes_month e) (e ∷ sections_of es) (joined e (sections_of es))

-- R69: the sections one after the other, which is the list again.
unfoldable pub concatenated : List (List ℕ) → List ℕ
concatenated [] = []
concatenated (s ∷ ss) = s ++ concatenated ss

-- ---- the bytes

-- R70 and R87: the letters EFB, then 1 in an old archive and 2 in a new one.
abbrev pub opening_bytes : Bool → List ℕ
opening_bytes new = 69 ∷ 70 ∷ 66 ∷ cond new 50 49 ∷ []

-- R70: the first eight bytes.
unfoldable pub header : Bool → ℕ → List ℕ
header new count = opening_bytes new ++ bytes_of 2 count ++ 0 ∷ 0 ∷ []

-- R70: a pair of offset and length for each section, each beginning where the one before ends.
unfoldable pub directory : ℕ → List (List ℕ) → List ℕ
directory offset [] = []
directory offset (s ∷ ss) = bytes_of 4 offset ++ bytes_of 4 (length s) ++ directory (offset + length s) ss

-- R70: where the first section begins, after the head and so many pairs.
unfoldable pub body_at : ℕ → ℕ
body_at count = 8 + 8 * count

-- R70: the archive of some sections, old or new; nothing but the fourth byte tells which (R87).
unfoldable pub packed : Bool → List (List ℕ) → List ℕ
packed new ss = header new (length ss) ++ directory (body_at (length ss)) ss ++ concatenated ss

-- R70: the archive of a list.
unfoldable pub archive_of : Bool → List ℕ → List ℕ
archive_of new list = packed new (sections_of (entries_of list))

-- R71 and R75: room for every month of 2000 to 2099.
abbrev pub most_sections : ℕ
most_sections = 1200

-- R71 and R75: the largest number of four bytes, so that every offset and the file's end fit a pair.
abbrev pub most_bytes : ℕ
most_bytes = 4294967295
