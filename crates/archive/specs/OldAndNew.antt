-- What sets old archives and new ones apart.
use Rattle.std.specs.Prelude.{ℕ, ◌<◌, Bool, true, false, eqb, List, [], length, get_or, set, ◌≡◌}
use Rattle.ledger.specs.Entries.{entry_of}
use Rattle.ledger.specs.OldAndNew.{is_old_kind}
use Rattle.archive.specs.Entries.{entries_of, finding}
use Rattle.archive.specs.Layout.{archive_of}
use Rattle.archive.specs.Reading.{is_new, wrong_header, right_directory, parts_of, numbers_of, checked, list_of}

-- R87: of an archive that the reader accepts, the fourth byte tells: 50 in a new one, 49 in an old one.
abbrev pub FourthByteTells : Type 0
FourthByteTells = (a : List ℕ) → (checked a).number ≡ 0 → (is_new a ≡ eqb (get_or a 3 0) 50) × (is_new a ≡ false → get_or a 3 0 ≡ 49)

-- R87: the two archives of a list differ in that byte alone.
abbrev pub OneByteApart : Type 0
OneByteApart = (list : List ℕ) → archive_of true list ≡ set (archive_of false list) 3 50

-- R87: no bytes are the archive of one list as an old one and of any list as a new one.
abbrev pub OldIsNotNew : Type 0
OldIsNotNew = (list other : List ℕ) → archive_of false list ≡ archive_of true other → ⊥

-- R68: the entry with index k, and whether it is of one of the nine kinds of the old rules.
unfoldable pub has_old_kind : List ℕ → ℕ → Bool
has_old_kind a k = is_old_kind (entry_of (get_or (entries_of (list_of a)) k [])).kind

-- R84: an accepted old archive holds no other kinds.
abbrev pub OldKindsOnly : Type 0
OldKindsOnly =
    (a : List ℕ) (k : ℕ) → (checked a).number ≡ 0 → is_new a ≡ false → k < length (entries_of (list_of a)) → has_old_kind a k ≡ true

-- R84: where an old archive's head and directory are right, the first entry of another kind gets 2 at its index, unless one before it is refused.
abbrev pub LaterKindsRefused : Type 0
LaterKindsRefused =
    (a : List ℕ) (k : ℕ) → wrong_header a ≡ false → right_directory a ≡ true → is_new a ≡ false → k < length (entries_of (list_of a))
    → has_old_kind a k ≡ false → ((j : ℕ) → j < k → get_or (numbers_of false (parts_of a)) j 0 ≡ 0) → checked a ≡ finding 2 k
