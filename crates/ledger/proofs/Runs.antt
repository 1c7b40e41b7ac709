-- A list is its first posting and the rest: what any posting keeps, any list of postings keeps.
use Prim.Native.Nat.{ℕ}
use mathlib.Core.List.{List, [], ◌∷◌}
use Rattle.ledger.specs.Structs.{Ledger}
use Rattle.ledger.specs.Posting.{posted}
use Rattle.ledger.specs.Running.{run}

pub run_keeps : (P : Ledger → Type 0) → ((l : Ledger) (b : List ℕ) → P l → P (posted l b).ledger) → (l : Ledger) (bs : List (List ℕ)) → P l → P (run l bs)
run_keeps P next l [] p = p
run_keeps P next l (b ∷ bs) p = run_keeps P next (posted l b).ledger bs (next l b p)
