-- There is one archive for each list, and one list in each archive.
use Rattle.std.specs.Prelude.{ℕ, ◌<◌, ◌≤◌, Bool, List, [], length, get_or, ◌≡◌}
use Rattle.archive.specs.Entries.{entries_of, finding}
use Rattle.archive.specs.Layout.{most_bytes, sections_of, concatenated, archive_of}
use Rattle.archive.specs.Writing.{written}
use Rattle.archive.specs.Reading.{section_count, is_new, checked, section_at, list_of}

-- R76: numbers that memory holds as bytes.
abbrev pub Bytes : List ℕ → Type 0
Bytes bytes = (i : ℕ) → get_or bytes i 0 < 256

-- R76: the archive of a list is accepted, says whether it is old or new, and gives the list back, whole and section by section.
pub record Read (new : Bool) (list : List ℕ) : Type 0 where
  pub accepted : checked (archive_of new list) ≡ finding 0 0
  pub kind : is_new (archive_of new list) ≡ new
  pub whole : list_of (archive_of new list) ≡ list
  pub count : section_count (archive_of new list) ≡ length (sections_of (entries_of list))
  pub sections : (i : ℕ) → i < length (sections_of (entries_of list)) → section_at (archive_of new list) i ≡ get_or (sections_of (entries_of list)) i []
  pub joined : concatenated (sections_of (entries_of list)) ≡ list

-- R76: this holds of every list that the writer accepts, whatever the room.
abbrev pub ReadsBack : Type 0
ReadsBack = (new : Bool) (list : List ℕ) (room : ℕ) → (written new list room).number ≡ 0 → Read new list

-- R76: an archive is what the writer, told whether it is old or new, makes of its entries, given room enough.
pub record Remade (a : List ℕ) : Type 0 where
  pub same : archive_of (is_new a) (list_of a) ≡ a
  pub answer : (room : ℕ) → length a ≤ room → written (is_new a) (list_of a) room ≡ record { number = 0; index = 0; length = length a }
  pub fits : length a ≤ most_bytes

-- R76: this holds of every archive that the reader accepts.
abbrev pub WritesBack : Type 0
WritesBack = (a : List ℕ) → Bytes a → (checked a).number ≡ 0 → Remade a
