-- Faults are looked for one after the other, and the first that is found gives the number.
use Rattle.std.specs.Prelude.{ℕ, Bool, cond, List, [], ◌∷◌}

-- R15: whether a test finds its fault, and the number of that fault.
abbrev pub Check : Type 0
Check = Bool × ℕ

-- R15, and R22 and R23 after it: the number of the first test that finds its fault; 0 if none does.
unfoldable pub verdict : List Check → ℕ
verdict [] = 0
verdict (c ∷ cs) = cond c.0 c.1 (verdict cs)
