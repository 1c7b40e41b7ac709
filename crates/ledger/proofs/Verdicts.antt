-- No check has the number 0, so a verdict of 0 tells of each that it found nothing wrong.
use Prim.Native.Nat.{ℕ, zero, suc}
use mathlib.Core.Path.{◌≡◌, refl}
use mathlib.Core.Bool.{Bool, true, false, cond, not, ◌&&◌, false≢true}
use mathlib.Core.List.{List, [], ◌∷◌, ◌++◌}
use lib.Dec.{eqb}
use lib.ListN.{get_or}
use borrow.Author.Tests.{not-true}
use Rattle.tariff.proofs.Bools.{and_left, and_right}
use Rattle.ledger.specs.Checks.{Check, verdict}

-- no check has the number 0
abbrev pub numbered : List Check → Bool
numbered [] = true
numbered (c ∷ cs) = not (eqb c.1 0) && numbered cs

pub first : (b : Bool) (n rest : ℕ) → not (eqb n 0) ≡ true → cond b n rest ≡ 0 → (b ≡ false) × (rest ≡ 0)
first true n rest t h = absurd (false≢true (rw h at t))
first false n rest t h = (refl, h)

-- for the layers above: a verdict is made check by check
pub verdict_none : verdict [] ≡ 0
unfolding verdict
verdict_none = refl

pub verdict_next : (c : Check) (cs : List Check) → verdict (c ∷ cs) ≡ cond c.0 c.1 (verdict cs)
unfolding verdict
verdict_next c cs = refl

-- where the verdict is 0, check i finds nothing
pub clear : (cs : List Check) → numbered cs ≡ true → verdict cs ≡ 0 → (i : ℕ) → (get_or cs i (false, 0)).0 ≡ false
unfolding verdict
clear [] t h i = refl
clear (c ∷ cs) t h zero = (first c.0 c.1 (verdict cs) (and_left (not (eqb c.1 0)) (numbered cs) t) h).0
clear (c ∷ cs) t h (suc i) =
    clear cs (and_right (not (eqb c.1 0)) (numbered cs) t) (first c.0 c.1 (verdict cs) (and_left (not (eqb c.1 0)) (numbered cs) t) h).1 i

-- checks after checks: the first list's verdict where that is not 0, else the second's
pub verdict_append : (cs ds : List Check) → numbered cs ≡ true → verdict (cs ++ ds) ≡ cond (eqb (verdict cs) 0) (verdict ds) (verdict cs)
unfolding verdict
verdict_append [] ds t = refl
verdict_append (c ∷ cs) ds t = go c.0 c.1 (verdict cs) (verdict (cs ++ ds)) (and_left (not (eqb c.1 0)) (numbered cs) t) (verdict_append cs ds (and_right (not (eqb c.1 0)) (numbered cs) t))
  where
    go : (b : Bool) (n rest whole : ℕ) → not (eqb n 0) ≡ true → whole ≡ cond (eqb rest 0) (verdict ds) rest
        → cond b n whole ≡ cond (eqb (cond b n rest) 0) (verdict ds) (cond b n rest)
    go true n rest whole k e = rw (not-true (eqb n 0) k)
    go false n rest whole k e = e

-- what follows counts by its own verdict alone
pub verdict_tail : (cs ds es : List Check) → verdict ds ≡ verdict es → verdict (cs ++ ds) ≡ verdict (cs ++ es)
unfolding verdict
verdict_tail [] ds es h = h
verdict_tail (c ∷ cs) ds es h = rw (verdict_tail cs ds es h)
