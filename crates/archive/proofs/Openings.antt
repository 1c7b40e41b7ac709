-- An archive begins with four bytes just where each of them is there: a byte that is not there counts as 0, which is none of them.
use borrow.Author.Tests.{eqb-true, eqb-false, eq-eqb, ne_eqb}
use mathlib.Core.Path.{◌≡◌, refl, sym}
use mathlib.Core.Bool.{Bool, true, false, ◌&&◌}
use mathlib.Core.List.{List, [], ◌∷◌}
use Prim.Native.Nat.{ℕ}
use lib.Dec.{eqb}
use lib.ListN.{get_or}
use Rattle.std.specs.List.{starts_with}
use Rattle.archive.specs.Layout.{opening_bytes}
use Rattle.archive.specs.Reading.{opens_as}

either_way : (a b : ℕ) → eqb a b ≡ eqb b a
either_way a b = go (eqb a b) refl
  where
    go : (t : Bool) → eqb a b ≡ t → t ≡ eqb b a
    go true e = sym (eq-eqb b a (sym (eqb-true a b e)))
    go false e = sym (ne_eqb b a (λ q. eqb-false a b e (sym q)))

nested : (p q r s : Bool) → p && (q && (r && (s && true))) ≡ p && q && r && s
nested true true true true = refl
nested true true true false = refl
nested true true false s = refl
nested true false r s = refl
nested false q r s = refl

-- one, two or three bytes
one : (p s : Bool) → p && false ≡ p && false && false && s
one true s = refl
one false s = refl

two : (p q s : Bool) → p && (q && false) ≡ p && q && false && s
two true true s = refl
two true false s = refl
two false q s = refl

three : (p q r s : Bool) → s ≡ false → p && (q && (r && false)) ≡ p && q && r && s
three true true true s h = sym h
three true true false s h = refl
three true false r s h = refl
three false q r s h = refl

-- a byte that is not there is not the fourth
fourth_missing : (new : Bool) → eqb 0 (get_or (opening_bytes new) 3 0) ≡ false
fourth_missing true = refl
fourth_missing false = refl

pub opens : (new : Bool) (a : List ℕ) → starts_with eqb a (opening_bytes new) ≡ opens_as new a
unfolding opens_as
opens new [] = refl
opens new (b ∷ []) = rw (either_way 69 b) (one (eqb b 69) _)
opens new (b ∷ c ∷ []) = rw (either_way 69 b, either_way 70 c) (two (eqb b 69) (eqb c 70) _)
opens new (b ∷ c ∷ d ∷ []) = rw (either_way 69 b, either_way 70 c, either_way 66 d) (three (eqb b 69) (eqb c 70) (eqb d 66) _ (fourth_missing new))
opens new (b ∷ c ∷ d ∷ e ∷ fs) =
    let last = get_or (opening_bytes new) 3 0 in rw (either_way 69 b, either_way 70 c, either_way 66 d, either_way last e) (nested (eqb b 69) (eqb c 70) (eqb d 66) (eqb e last))
