-- Whether a notice is the counterpart of a letter is told by the two letters alone: a notice that stands says what its own letter said.
use Prim.Native.Nat.{ℕ, zero, suc, ◌≤◌}
use mathlib.Core.Path.{◌≡◌, refl, ap}
use mathlib.Core.Bool.{Bool, true, false, cond, not, ◌&&◌}
use native.Mathlib.Omega.{arith}
use lib.Dec.{eqb}
use Rattle.ledger.specs.Structs.{Entry, Ledger}
use Rattle.ledger.specs.Entries.{writer_takes}
use Rattle.ledger.specs.State.{account_at, no_notice}
use Rattle.ledger.specs.Notice.{written, awaits, meets}

pub written_stands : (e : Entry) → (written e).stands ≡ true
unfolding written
written_stands e = refl

pub meets_is : (l : Ledger) (e : Entry) → meets l e ≡ awaits (account_at l e.b).today.notice e
unfolding meets
meets_is l e = refl

pub none_awaits : (e : Entry) → awaits no_notice e ≡ false
unfolding awaits
none_awaits e = refl

-- two flags, each 0 or 1
other_side : (f g : ℕ) → f ≤ 1 → g ≤ 1 → cond (not (eqb f 0)) (not (not (eqb g 0))) (not (eqb g 0)) ≡ not (eqb f g)
other_side zero zero p q = refl
other_side zero (suc zero) p q = refl
other_side (suc zero) zero p q = refl
other_side (suc zero) (suc zero) p q = refl
other_side (suc (suc f)) g p q = absurd (omega arith)
other_side zero (suc (suc g)) p q = absurd (omega arith)
other_side (suc zero) (suc (suc g)) p q = absurd (omega arith)

pub written_awaits : (s e : Entry) → s.flags ≤ 1 → e.flags ≤ 1 → awaits (written s) e ≡ eqb s.b e.a && not (eqb s.flags e.flags) && eqb s.w1 e.w1
unfolding awaits written writer_takes
written_awaits s e p q = ap (λ (t : Bool). eqb s.b e.a && t && eqb s.w1 e.w1) (other_side s.flags e.flags p q)
