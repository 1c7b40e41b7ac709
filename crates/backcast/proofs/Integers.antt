-- An integer is a sign and a size, so products go by sizes; scaling by a natural number keeps sums and products.
use Prim.Native.Nat.{ℕ, zero, suc, ◌+◌, ◌-◌, ◌*◌, ◌≤◌, ◌<◌}
use native.Mathlib.Nat.{add-mul, mul_assoc, mul_comm, mul-le-mul_right, mul-mul-mul_comm, mul-sub, mul-zero, zero-mul}
use native.Mathlib.Omega.{arith}
use mathlib.Core.Bool.{Bool, true, false, cond, not}
use mathlib.Core.Path.{◌≡◌, refl, sym, ap, ◌∙◌, subst}
use lib.Dec.{T, ltb, ltb→lt, nltb→le}
use lib.IntN.{ℤ, pos, negsuc, neg_ℤ, nat_abs, ◌+ℤ◌, ◌*ℤ◌, +ℤ_comm, +ℤ-neg_ℤ_cancel, neg_ℤ-neg_ℤ, neg_ℤ-+ℤ}
use lib.Ieee.{unlike}

-- the integer with a sign and a size
abbrev pub signed : Bool → ℕ → ℤ
signed s n = cond s (neg_ℤ (pos n)) (pos n)

pub signed_size : (s : Bool) (n : ℕ) → nat_abs (signed s n) ≡ n
signed_size false n = refl
signed_size true zero = refl
signed_size true (suc n) = refl

-- ---- products
pub signed_product : (s t : Bool) (a b : ℕ) → signed s a *ℤ signed t b ≡ signed (unlike s t) (a * b)
signed_product false false a b = refl
signed_product false true a zero = rw mul-zero
signed_product false true a (suc b) = refl
signed_product true false zero b = rw zero-mul
signed_product true false (suc a) b = refl
signed_product true true zero zero = refl
signed_product true true zero (suc b) = rw zero-mul
signed_product true true (suc a) zero = rw mul-zero
signed_product true true (suc a) (suc b) = refl

pub signed_times : (s : Bool) (a c : ℕ) → signed s a *ℤ pos c ≡ signed s (a * c)
signed_times false a c = refl
signed_times true a c = signed_product true false a c

pub times_twice : (a : ℤ) (c d : ℕ) → a *ℤ pos c *ℤ pos d ≡ a *ℤ pos (c * d)
times_twice (pos a) c d = ap pos (mul_assoc a c d)
times_twice (negsuc a) c d = signed_times true (suc a * c) d ∙ ap (signed true) (mul_assoc (suc a) c d)

both_times : (s t : Bool) (a b c d : ℕ) → signed s a *ℤ pos c *ℤ (signed t b *ℤ pos d) ≡ signed s a *ℤ signed t b *ℤ pos (c * d)
both_times s t a b c d =
    ap (λ (z : ℤ). z *ℤ (signed t b *ℤ pos d)) (signed_times s a c)
    ∙ ap (λ (z : ℤ). signed s (a * c) *ℤ z) (signed_times t b d)
    ∙ signed_product s t (a * c) (b * d)
    ∙ ap (signed (unlike s t)) (mul-mul-mul_comm a c b d)
    ∙ sym (signed_times (unlike s t) (a * b) (c * d))
    ∙ ap (λ (z : ℤ). z *ℤ pos (c * d)) (sym (signed_product s t a b))

pub times_each : (a b : ℤ) (c d : ℕ) → a *ℤ pos c *ℤ (b *ℤ pos d) ≡ a *ℤ b *ℤ pos (c * d)
times_each (pos a) (pos b) c d = both_times false false a b c d
times_each (pos a) (negsuc b) c d = both_times false true a (suc b) c d
times_each (negsuc a) (pos b) c d = both_times true false (suc a) b c d
times_each (negsuc a) (negsuc b) c d = both_times true true (suc a) (suc b) c d

pub opposite_times : (a : ℤ) (c : ℕ) → neg_ℤ (a *ℤ pos c) ≡ neg_ℤ a *ℤ pos c
opposite_times (pos a) c = sym (signed_times true a c)
opposite_times (negsuc a) c = neg_ℤ-neg_ℤ (pos (suc a * c))

-- ---- sums
fewer : (a b : ℕ) → b ≤ a → pos a +ℤ neg_ℤ (pos b) ≡ pos (a - b)
fewer a b h = let e : a - b + b ≡ a = omega arith in subst (λ (k : ℕ). pos k +ℤ neg_ℤ (pos b) ≡ pos (a - b)) e (+ℤ-neg_ℤ_cancel (pos (a - b)) (pos b))

-- the integers' difference of two naturals, by which of them is larger
pub difference_up : (a b : ℕ) → b ≤ a → neg_ℤ (pos b) +ℤ pos a ≡ pos (a - b)
difference_up a b h = +ℤ_comm (neg_ℤ (pos b)) (pos a) ∙ fewer a b h

pub difference_down : (a b : ℕ) → a ≤ b → neg_ℤ (pos b) +ℤ pos a ≡ neg_ℤ (pos (b - a))
difference_down a b h = ap (λ (z : ℤ). neg_ℤ (pos b) +ℤ z) (sym (neg_ℤ-neg_ℤ (pos a))) ∙ sym (neg_ℤ-+ℤ (pos b) (neg_ℤ (pos a))) ∙ ap neg_ℤ (fewer b a h)

mixed : (a b c : ℕ) → neg_ℤ (pos (b * c)) +ℤ pos (a * c) ≡ (neg_ℤ (pos b) +ℤ pos a) *ℤ pos c
mixed a b c = go (ltb a b) (ltb→lt a b) (nltb→le a b)
  where
    less : (a b : ℕ) → (b - a) * c ≡ b * c - a * c
    less a b = mul_comm (b - a) c ∙ mul-sub c b a ∙ ap (λ (k : ℕ). k - c * a) (mul_comm c b) ∙ ap (λ (k : ℕ). b * c - k) (mul_comm c a)

    go : (t : Bool) → (T t → a < b) → (T (not t) → b ≤ a) → neg_ℤ (pos (b * c)) +ℤ pos (a * c) ≡ (neg_ℤ (pos b) +ℤ pos a) *ℤ pos c
    go true l g =
        let h : a ≤ b = let k = l tt in omega arith in
        difference_down (a * c) (b * c) (mul-le-mul_right c h) ∙ ap (λ (k : ℕ). neg_ℤ (pos k)) (sym (less a b)) ∙ sym (signed_times true (b - a) c)
        ∙ ap (λ (z : ℤ). z *ℤ pos c) (sym (difference_down a b h))
    go false l g =
        difference_up (a * c) (b * c) (mul-le-mul_right c (g tt)) ∙ ap pos (sym (less b a)) ∙ ap (λ (z : ℤ). z *ℤ pos c) (sym (difference_up a b (g tt)))

signed_sum : (s t : Bool) (a b c : ℕ) → signed s (a * c) +ℤ signed t (b * c) ≡ (signed s a +ℤ signed t b) *ℤ pos c
signed_sum false false a b c = ap pos (sym (add-mul a b c))
signed_sum true true a b c =
    sym (neg_ℤ-+ℤ (pos (a * c)) (pos (b * c))) ∙ ap (λ (k : ℕ). neg_ℤ (pos k)) (sym (add-mul a b c)) ∙ sym (signed_times true (a + b) c)
    ∙ ap (λ (z : ℤ). z *ℤ pos c) (neg_ℤ-+ℤ (pos a) (pos b))
signed_sum true false a b c = mixed b a c
signed_sum false true a b c =
    +ℤ_comm (pos (a * c)) (neg_ℤ (pos (b * c))) ∙ mixed a b c ∙ ap (λ (z : ℤ). z *ℤ pos c) (+ℤ_comm (neg_ℤ (pos b)) (pos a))

pub times_sum : (a b : ℤ) (c : ℕ) → a *ℤ pos c +ℤ b *ℤ pos c ≡ (a +ℤ b) *ℤ pos c
times_sum (pos a) (pos b) c = signed_sum false false a b c
times_sum (pos a) (negsuc b) c = signed_sum false true a (suc b) c
times_sum (negsuc a) (pos b) c = signed_sum true false (suc a) b c
times_sum (negsuc a) (negsuc b) c = signed_sum true true (suc a) (suc b) c
