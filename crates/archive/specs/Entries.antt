-- A list of entries in bytes, and the first entry of it that is refused.
use Rattle.std.specs.Prelude.{ℕ, zero, suc, ◌+◌, ◌/◌, Bool, cond, eqb, List, [], ◌∷◌, length, take, drop}
use Rattle.archive.specs.Structs.{Checked}
use Rattle.ledger.specs.Kinds.{CLOSE_MONTH}
use Rattle.ledger.specs.Entries.{entry_of}

-- R68: the first n entries.
unfoldable pub first_entries : ℕ → List ℕ → List (List ℕ)
first_entries zero bytes = []
first_entries (suc n) bytes = take 32 bytes ∷ first_entries n (drop 32 bytes)

-- R68: all whole entries of some bytes.
unfoldable pub entries_of : List ℕ → List (List ℕ)
entries_of bytes = first_entries (length bytes / 32) bytes

-- R69: whether an entry ends its section; its kind byte alone decides.
unfoldable pub closes_month : List ℕ → Bool
closes_month entry = eqb (entry_of entry).kind CLOSE_MONTH

-- R73: a number, and the index of the entry that it is about.
unfoldable pub finding : ℕ → ℕ → Checked
finding number index = record { number = number; index = index }

-- R73: the first number other than 0, with its index counted from i; 0 and 0 if there is none.
unfoldable pub first_refusal : ℕ → List ℕ → Checked
first_refusal i [] = finding 0 0
first_refusal i (n ∷ ns) = cond (eqb n 0) (first_refusal (i + 1) ns) (finding n i)

-- R73: the numbers of some entries, by what each has, told whether it is the last of them.
unfoldable pub numbers_by : (Bool → List ℕ → ℕ) → List (List ℕ) → List ℕ
numbers_by number [] = []
numbers_by number (e ∷ es) = number (eqb (length es) 0) e ∷ numbers_by number es
