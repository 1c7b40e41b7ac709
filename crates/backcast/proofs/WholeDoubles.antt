-- A sum, a difference or a product of whole doubles is a whole number; up to 2^53 it is a double, so that rounding changes nothing.
use Prim.Native.Nat.{ℕ, zero, suc, ◌+◌, ◌-◌, ◌*◌, ◌≤◌, ◌<◌, ◌^◌}
use native.Mathlib.Nat.{le_of_eq, le_trans, lt_irrefl, mul_comm, mul-one, mul-pos, mul-le-mul}
use native.Mathlib.Omega.{arith}
use mathlib.Core.Bool.{Bool, true, false, not, true≢false}
use mathlib.Core.Path.{◌≡◌, refl, sym, ap, ◌∙◌, subst}
use lib.Dec.{T, lit<, ltb, ltb→lt, nltb→le}
use lib.IntN.{ℤ, pos, negsuc, neg_ℤ, nat_abs, ◌+ℤ◌, ◌-ℤ◌, ◌*ℤ◌, neg_ℤ-+ℤ, neg_ℤ-neg_ℤ, +ℤ_comm, pos-ne-negsuc}
use lib.Signed.{lt_z}
use lib.Ieee as Ieee
use lib.Ieee.{Float, nan, inf, fin, binary64, down, round, sum, unlike, up}
use lib.Ieee.Back.{round_whole}
use lib.Ieee.Exact.{HasValue}
use lib.Ieee.Fits.{down_pos}
use lib.Ieee.Scale.{round_same}
use Rattle.tariff.proofs.Signed.{size_neg, size_product, size_sum}
use Rattle.backcast.specs.Doubles.{is_number, numerator, denominator}
use Rattle.backcast.specs.ExactCase.{IsWhole}
use Rattle.backcast.proofs.Integers.{difference_down, difference_up, opposite_times, signed, signed_product, signed_size, signed_times, times_each, times_sum, times_twice}
use Rattle.backcast.proofs.Orders.{lt_z_times}
use Rattle.backcast.proofs.Values.{denominator_pos, lt_value}

pub widen : {x : Float} {z : ℤ} {M N : ℕ} → M ≤ N → IsWhole x z M → IsWhole x z N
widen h w = record { is_number = w.is_number; value = w.value; bounded = le_trans w.bounded h }

-- ---- rounding a fraction that is a whole number
scaled_pos : (n c : ℕ) → 0 < c → 0 < suc n * c
scaled_pos n c p = mul-pos (let z : 0 < suc n = omega arith in z) p

-- the sign is the whole number's, but for 0
sign_is : (s : Bool) (k : ℕ) (z : ℤ) (c : ℕ) → 0 < c → signed s k ≡ z *ℤ pos c → z ≡ signed s (nat_abs z)
sign_is false k (pos n) c p e = refl
sign_is false k (negsuc n) c p e = absurd (never (suc n * c) (scaled_pos n c p) e)
  where
    never : (b : ℕ) → 0 < b → pos k ≡ neg_ℤ (pos b) → ⊥
    never zero h q = lt_irrefl 0 h
    never (suc b) h q = pos-ne-negsuc k b q
sign_is true k (pos zero) c p e = refl
sign_is true k (pos (suc n)) c p e = absurd (never k (suc n * c) (scaled_pos n c p) e)
  where
    never : (k b : ℕ) → 0 < b → neg_ℤ (pos k) ≡ pos b → ⊥
    never zero b h q = lt_irrefl 0 (subst (λ (i : ℕ). 0 < i) (sym (ap nat_abs q)) h)
    never (suc k) b h q = pos-ne-negsuc b k (sym q)
sign_is true k (negsuc n) c p e = refl

of_value : (x : Float) (s : Bool) (n : ℕ) (z : ℤ) → HasValue x s n 1 → z ≡ signed s n → IsWhole x z n
unfolding is_number numerator denominator
of_value nan s n z v e = absurd v
of_value (inf t) s n z v e = absurd v
of_value (fin t m e) s n z v is =
    record {
      is_number = refl;
      value =
          ap (λ (b : Bool). signed b (m * up e)) v.0 ∙ ap (signed s) (sym (mul-one (m * up e)) ∙ v.1) ∙ sym (signed_times s n (down e))
          ∙ ap (λ (i : ℤ). i *ℤ pos (down e)) (sym is);
      bounded = le_of_eq (ap nat_abs is ∙ signed_size s n);
    }

pub round_whole_number : (s : Bool) (k c : ℕ) (z : ℤ) (N : ℕ) → 0 < c → signed s k ≡ z *ℤ pos c → nat_abs z ≤ N → N ≤ 2 ^ 53 → IsWhole (round binary64 s k c) z N
round_whole_number s k c z N p e b h =
    let n = nat_abs z in
    let size : k ≡ n * c = sym (signed_size s k) ∙ ap nat_abs e ∙ size_product z (pos c) in
    let v : HasValue (round binary64 s n 1) s n 1 = round_whole binary64 s n (le_trans b h) in
    let w : HasValue (round binary64 s k c) s n 1 = subst (λ (x : Float). HasValue x s n 1) (sym (round_same binary64 s k c n 1 p (lit< tt) (mul-one k ∙ size))) v in
    widen b (of_value (round binary64 s k c) s n z w (sign_is s k z c p e))

-- an integer as a double
pub integer : (z : ℤ) → nat_abs z ≤ 2 ^ 53 → IsWhole (Ieee.of_int binary64 z) z (nat_abs z)
unfolding Ieee.of_int
integer (pos n) h = of_value (round binary64 false n 1) false n (pos n) (round_whole binary64 false n h) refl
integer (negsuc n) h = of_value (round binary64 true (suc n) 1) true (suc n) (negsuc n) (round_whole binary64 true (suc n) h) refl

-- ---- a sum is rounded from a sign and a size over the common denominator
record Rounded (s : Bool) (a : ℕ) (t : Bool) (b c : ℕ) : Type 0 where
  pub sign : Bool
  pub size : ℕ
  pub is : sum binary64 s a t b c ≡ round binary64 sign size c
  pub value : signed s a +ℤ signed t b ≡ signed sign size

rounded : (s t : Bool) (a b c : ℕ) → Rounded s a t b c
unfolding sum
rounded false false a b c = record { sign = false; size = a + b; is = refl; value = refl }
rounded true true a b c = record { sign = true; size = a + b; is = refl; value = sym (neg_ℤ-+ℤ (pos a) (pos b)) }
rounded false true a b c = go (ltb a b) (ltb→lt a b) (nltb→le a b) refl
  where
    go : (q : Bool) → (T q → a < b) → (T (not q) → b ≤ a) → ltb a b ≡ q → Rounded false a true b c
    go true l g e = record { sign = true; size = b - a; is = rw e; value = +ℤ_comm (pos a) (neg_ℤ (pos b)) ∙ difference_down a b (let k = l tt in omega arith) }
    go false l g e = record { sign = false; size = a - b; is = rw e; value = +ℤ_comm (pos a) (neg_ℤ (pos b)) ∙ difference_up a b (g tt) }
rounded true false a b c = go (ltb a b) (ltb→lt a b) (nltb→le a b) refl
  where
    go : (q : Bool) → (T q → a < b) → (T (not q) → b ≤ a) → ltb a b ≡ q → Rounded true a false b c
    go true l g e = record { sign = false; size = b - a; is = rw e; value = difference_up b a (let k = l tt in omega arith) }
    go false l g e = record { sign = ltb b a; size = a - b; is = rw e; value = difference_down b a (g tt) ∙ zero_either (ltb b a) (nltb→le b a) }
      where
        zero_either : (r : Bool) → (T (not r) → a ≤ b) → neg_ℤ (pos (a - b)) ≡ signed r (a - b)
        zero_either true f = refl
        zero_either false f = let z : a - b ≡ 0 = let k = f tt in omega arith in rw z

-- ---- the operations
module _ (M N : ℕ) where
  pub sum_whole : (x y : Float) (a b : ℤ) → IsWhole x a M → IsWhole y b N → M + N ≤ 2 ^ 53 → IsWhole (Ieee.add binary64 x y) (a +ℤ b) (M + N)
  unfolding Ieee.add is_number numerator denominator
  sum_whole nan y a b u v h = absurd (true≢false (sym u.is_number))
  sum_whole (inf s) y a b u v h = absurd (true≢false (sym u.is_number))
  sum_whole (fin s m e) nan a b u v h = absurd (true≢false (sym v.is_number))
  sum_whole (fin s m e) (inf t) a b u v h = absurd (true≢false (sym v.is_number))
  sum_whole (fin s m e) (fin t n d) a b u v h =
      let c = down e * down d in
      let r = rounded s t (m * up e * down d) (n * up d * down e) c in
      let first : signed s (m * up e * down d) ≡ a *ℤ pos c
      = sym (signed_times s (m * up e) (down d)) ∙ ap (λ (z : ℤ). z *ℤ pos (down d)) u.value ∙ times_twice a (down e) (down d) in
      let second : signed t (n * up d * down e) ≡ b *ℤ pos c
      = sym (signed_times t (n * up d) (down e)) ∙ ap (λ (z : ℤ). z *ℤ pos (down e)) v.value ∙ times_twice b (down d) (down e)
      ∙ ap (λ (k : ℕ). b *ℤ pos k) (mul_comm (down d) (down e)) in
      let value : signed r.sign r.size ≡ (a +ℤ b) *ℤ pos c
      = sym r.value ∙ ap (λ (z : ℤ). z +ℤ signed t (n * up d * down e)) first ∙ ap (λ (z : ℤ). a *ℤ pos c +ℤ z) second ∙ times_sum a b c in
      let small : nat_abs (a +ℤ b) ≤ M + N = let i = u.bounded in let j = v.bounded in omega (arith, size_sum a b) in
      subst (λ (x : Float). IsWhole x (a +ℤ b) (M + N)) (sym r.is)
      (round_whole_number r.sign r.size c (a +ℤ b) (M + N) (mul-pos (down_pos e) (down_pos d)) value small h)

  pub product_whole : (x y : Float) (a b : ℤ) → IsWhole x a M → IsWhole y b N → M * N ≤ 2 ^ 53 → IsWhole (Ieee.mul binary64 x y) (a *ℤ b) (M * N)
  unfolding Ieee.mul is_number numerator denominator
  product_whole nan y a b u v h = absurd (true≢false (sym u.is_number))
  product_whole (inf s) y a b u v h = absurd (true≢false (sym u.is_number))
  product_whole (fin s m e) nan a b u v h = absurd (true≢false (sym v.is_number))
  product_whole (fin s m e) (inf t) a b u v h = absurd (true≢false (sym v.is_number))
  product_whole (fin s m e) (fin t n d) a b u v h =
      let value : signed (unlike s t) (m * up e * (n * up d)) ≡ a *ℤ b *ℤ pos (down e * down d)
      = sym (signed_product s t (m * up e) (n * up d)) ∙ ap (λ (z : ℤ). z *ℤ signed t (n * up d)) u.value
      ∙ ap (λ (z : ℤ). a *ℤ pos (down e) *ℤ z) v.value ∙ times_each a b (down e) (down d) in
      let small : nat_abs (a *ℤ b) ≤ M * N = subst (λ (k : ℕ). k ≤ M * N) (sym (size_product a b)) (mul-le-mul u.bounded v.bounded) in
      round_whole_number (unlike s t) (m * up e * (n * up d)) (down e * down d) (a *ℤ b) (M * N) (mul-pos (down_pos e) (down_pos d)) value small h

  opposite_whole : (x : Float) (a : ℤ) → IsWhole x a M → IsWhole (Ieee.neg x) (neg_ℤ a) M
  unfolding Ieee.neg is_number numerator denominator
  opposite_whole nan a u = absurd (true≢false (sym u.is_number))
  opposite_whole (inf s) a u = absurd (true≢false (sym u.is_number))
  opposite_whole (fin s m e) a u =
      record {
        is_number = refl;
        value = turned s (m * up e) ∙ ap neg_ℤ u.value ∙ opposite_times a (down e);
        bounded = subst (λ (k : ℕ). k ≤ M) (sym (size_neg a)) u.bounded;
      }
    where
      turned : (t : Bool) (k : ℕ) → signed (not t) k ≡ neg_ℤ (signed t k)
      turned false k = refl
      turned true k = sym (neg_ℤ-neg_ℤ (pos k))

pub difference_whole : (M N : ℕ) (x y : Float) (a b : ℤ) → IsWhole x a M → IsWhole y b N → M + N ≤ 2 ^ 53 → IsWhole (Ieee.sub binary64 x y) (a -ℤ b) (M + N)
unfolding Ieee.sub
difference_whole M N x y a b u v h = sum_whole M N x (Ieee.neg y) a (neg_ℤ b) u (opposite_whole N N y b v) h

pub below_whole : (M N : ℕ) (x y : Float) (a b : ℤ) → IsWhole x a M → IsWhole y b N → Ieee.lt x y ≡ lt_z a b
below_whole M N x y a b u v =
    let c = denominator x in
    let d = denominator y in
    let first : numerator x *ℤ pos d ≡ a *ℤ pos (c * d) = ap (λ (z : ℤ). z *ℤ pos d) u.value ∙ times_twice a c d in
    let second : numerator y *ℤ pos c ≡ b *ℤ pos (c * d) = ap (λ (z : ℤ). z *ℤ pos c) v.value ∙ times_twice b d c ∙ ap (λ (k : ℕ). b *ℤ pos k) (mul_comm d c) in
    lt_value x y u.is_number v.is_number
    ∙ ap (λ (z : ℤ). lt_z z (numerator y *ℤ pos c)) first ∙ ap (λ (z : ℤ). lt_z (a *ℤ pos (c * d)) z) second
    ∙ lt_z_times a b (c * d) (mul-pos (denominator_pos x) (denominator_pos y))
