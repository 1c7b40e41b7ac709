-- A list of postings, each to the ledger that the one before it left.
use Rattle.std.specs.Prelude.{ℕ, Bool, eqb, List, [], ◌∷◌}
use Rattle.ledger.specs.Structs.{Answer, Ledger}
use Rattle.ledger.specs.Posting.{posted}

-- R61: the ledger at the end.
abbrev pub run : Ledger → List (List ℕ) → Ledger
run l [] = l
run l (b ∷ bs) = run (posted l b).ledger bs

-- R61: a posting, and the answer to it.
pub record Line : Type 0 where
  pub bytes : List ℕ
  pub answer : Answer

-- R61: every posting with its answer, refused ones too.
abbrev pub history : Ledger → List (List ℕ) → List Line
history l [] = []
history l (b ∷ bs) = record { bytes = b; answer = (posted l b).answer } ∷ history (posted l b).ledger bs

-- R61: accepted means number 0.
abbrev pub is_accepted : Line → Bool
is_accepted x = eqb x.answer.number 0
