-- The order of integers is what a comparison of doubles asks of signs and sizes, and scaling by a number above 0 keeps it.
use Prim.Native.Nat.{ℕ, zero, suc, ◌+◌, ◌*◌, ◌<◌}
use native.Mathlib.Nat.{eq-or-lt_of_le, le_of_eq, le_of_lt, lt_of_mul-lt-mul_right, mul-lt-mul_of_pos_right, mul-pos}
use native.Mathlib.Omega.{arith}
use mathlib.Core.Bool.{Bool, true, false, not, ◌&&◌, ◌||◌}
use mathlib.Core.Path.{◌≡◌, refl, sym, ap, ◌∙◌, subst}
use mathlib.Core.Logic.{◌⊎◌, inl, inr}
use lib.Arith.{le→nltb}
use lib.Dec.{T, eqb, eqb→eq, eqb_refl, leb, leb→le, le→leb, leb-suc-suc, ltb, lt→ltb, ltb→lt, nltb→le}
use lib.IntN.{ℤ, pos, negsuc, neg_ℤ, ◌*ℤ◌}
use lib.Signed.{le_z, lt_z}
use lib.Ieee.{below, level}
use borrow.Author.Tests.{le-ltb, lt-ltb}
use Rattle.backcast.proofs.Integers.{signed}

same : (p q : Bool) → (T p → T q) → (T q → T p) → p ≡ q
same true true f g = refl
same true false f g = absurd (f tt)
same false true f g = absurd (g tt)
same false false f g = refl

ltb_times : (a b c : ℕ) → 0 < c → ltb (a * c) (b * c) ≡ ltb a b
ltb_times a b c p =
    same (ltb (a * c) (b * c)) (ltb a b) (λ t. lt→ltb a b (lt_of_mul-lt-mul_right c (ltb→lt (a * c) (b * c) t)))
    (λ t. lt→ltb (a * c) (b * c) (mul-lt-mul_of_pos_right (ltb→lt a b t) p))

-- below zero or −0, against not below zero
below_mixed : (a b : ℕ) → ltb 0 (a + b) ≡ lt_z (neg_ℤ (pos a)) (pos b)
below_mixed zero b = ap (ltb 0) (let e : 0 + b ≡ b = omega arith in e)
below_mixed (suc a) b = lt-ltb 0 (suc a + b) (omega arith)

-- what a comparison of doubles asks, by signs and sizes
pub below_is : (s t : Bool) (a b : ℕ) → below s a t b ≡ lt_z (signed s a) (signed t b)
below_is false false a b = refl
below_is false true a zero = sym (le-ltb a 0 (omega arith))
below_is false true a (suc b) = refl
below_is true false a b = below_mixed a b
below_is true true zero zero = refl
below_is true true zero (suc b) = le-ltb (suc b) 0 (omega arith)
below_is true true (suc a) zero = lt-ltb 0 (suc a) (omega arith)
below_is true true (suc a) (suc b) = leb-suc-suc (suc b) a

le_not_lt : (a b : ℕ) → leb a b ≡ not (ltb b a)
le_not_lt a b = same (leb a b) (not (ltb b a)) (λ t. le→nltb b a (leb→le a b t)) (λ t. le→leb a b (nltb→le b a t))

not_above_lem : (a b : ℤ) → le_z a b ≡ not (lt_z b a)
not_above_lem (pos a) (pos b) = le_not_lt a b
not_above_lem (pos a) (negsuc b) = refl
not_above_lem (negsuc a) (pos b) = refl
not_above_lem (negsuc a) (negsuc b) = le_not_lt b a

or_yes : (p q : Bool) → T p ⊎ T q → T (p || q)
or_yes true q h = tt
or_yes false q (inl h) = absurd h
or_yes false q (inr h) = h

or_which : (p q : Bool) → T (p || q) → T p ⊎ T q
or_which true q h = inl tt
or_which false q h = inr h

both_yes : (p q : Bool) → T p → T q → T (p && q)
both_yes true q h k = k
both_yes false q h k = h

first_yes : (p q : Bool) → T (p && q) → T p
first_yes true q h = tt
first_yes false q h = h

second_yes : (p q : Bool) → T (p && q) → T q
second_yes true q h = h
second_yes false q h = absurd h

eq_yes : (a b : ℕ) → a ≡ b → T (eqb a b)
eq_yes a b e = subst (λ (k : ℕ). T (eqb a k)) e (eqb_refl a)

-- below or equal, q being the test of equality
at_most : (a b : ℕ) (q : Bool) → (T q → a ≡ b) → (a ≡ b → T q) → (ltb a b || (q && true)) ≡ leb a b
at_most a b q f g =
    same (ltb a b || (q && true)) (leb a b)
    (λ t. le→leb a b (elim (or_which (ltb a b) (q && true) t) [ inl u ↦ le_of_lt (ltb→lt a b u) | inr u ↦ le_of_eq (f (first_yes q true u)) ]))
    (λ t. or_yes (ltb a b) (q && true) (elim (eq-or-lt_of_le (leb→le a b t)) [ inl e ↦ inr (both_yes q true (g e) tt) | inr l ↦ inl (lt→ltb a b l) ]))

-- not below zero, against below zero or −0
level_down : (a b : ℕ) → eqb a b && eqb a 0 ≡ le_z (pos a) (neg_ℤ (pos b))
level_down a zero = same (eqb a 0 && eqb a 0) (leb a 0) (λ t. le→leb a 0 (le_of_eq (eqb→eq a 0 (first_yes (eqb a 0) (eqb a 0) t))))
    (λ t. let e : a ≡ 0 = let h = leb→le a 0 t in omega arith in both_yes (eqb a 0) (eqb a 0) (eq_yes a 0 e) (eq_yes a 0 e))
level_down a (suc b) = same (eqb a (suc b) && eqb a 0) false
    (λ t. let e = eqb→eq a (suc b) (first_yes (eqb a (suc b)) (eqb a 0) t) in
    let z = eqb→eq a 0 (second_yes (eqb a (suc b)) (eqb a 0) t) in
    absurd (let no : suc b ≡ 0 = sym e ∙ z in omega arith)) (λ t. absurd t)

level_up : (a b : ℕ) → (ltb 0 (a + b) || (eqb a b && eqb a 0)) ≡ true
level_up zero zero = refl
level_up zero (suc b) = rw (lt-ltb 0 (0 + suc b) (omega arith))
level_up (suc a) b = rw (lt-ltb 0 (suc a + b) (omega arith))

pub level_is : (s t : Bool) (a b : ℕ) → (below s a t b || level s a t b) ≡ le_z (signed s a) (signed t b)
level_is false false a b = at_most a b (eqb a b) (eqb→eq a b) (eq_yes a b)
level_is true true a b =
    at_most b a (eqb a b) (λ t. sym (eqb→eq a b t)) (λ e. eq_yes a b (sym e))
    ∙ le_not_lt b a ∙ ap not (below_is true true b a) ∙ sym (not_above_lem (neg_ℤ (pos a)) (neg_ℤ (pos b)))
level_is false true a b = level_down a b
level_is true false a b = level_up a b ∙ ap not (below_is false true b a) ∙ sym (not_above_lem (neg_ℤ (pos a)) (pos b))

-- ---- scaling keeps the order
pub lt_z_times : (a b : ℤ) (c : ℕ) → 0 < c → lt_z (a *ℤ pos c) (b *ℤ pos c) ≡ lt_z a b
lt_z_times (pos a) (pos b) c p = ltb_times a b c p
lt_z_times (pos a) (negsuc b) c p = sym (below_is false true (a * c) (suc b * c))
lt_z_times (negsuc a) (pos b) c p =
    let k : 0 < suc a * c = mul-pos (let z : 0 < suc a = omega arith in z) p in
    sym (below_is true false (suc a * c) (b * c)) ∙ lt-ltb 0 (suc a * c + b * c) (omega arith)
lt_z_times (negsuc a) (negsuc b) c p = sym (below_is true true (suc a * c) (suc b * c)) ∙ ltb_times (suc b) (suc a) c p ∙ leb-suc-suc (suc b) a

pub le_z_times : (a b : ℤ) (c : ℕ) → 0 < c → le_z (a *ℤ pos c) (b *ℤ pos c) ≡ le_z a b
le_z_times a b c p = not_above_lem (a *ℤ pos c) (b *ℤ pos c) ∙ ap not (lt_z_times b a c p) ∙ sym (not_above_lem a b)
