-- Two doubles that are numbers compare as their exact values do, each numerator taken times the other's denominator.
use Prim.Native.Nat.{ℕ, ◌*◌, ◌<◌}
use mathlib.Core.Bool.{Bool, true, false, true≢false, ◌&&◌}
use mathlib.Core.Path.{◌≡◌, refl, sym, ap, ◌∙◌}
use lib.IntN.{ℤ, pos, ◌*ℤ◌}
use lib.Signed.{le_z, lt_z}
use lib.Ieee as Ieee
use lib.Ieee.{Float, nan, inf, fin, down, up}
use lib.Ieee.Fits.{down_pos}
use lib.Pow.{pow_pos}
use Rattle.backcast.specs.Doubles.{is_number, numerator, denominator}
use Rattle.backcast.proofs.Integers.{signed, signed_times}
use Rattle.backcast.proofs.Orders.{below_is, level_is}

-- below one infinity and above the other lie the numbers and nothing else: each sort of double is tried
pub between : (x : Float) → Ieee.lt (inf true) x && Ieee.lt x (inf false) ≡ is_number x
unfolding Ieee.lt is_number
between nan = refl
between (inf true) = refl
between (inf false) = refl
between (fin s m e) = refl

pub denominator_pos : (x : Float) → 0 < denominator x
unfolding denominator
denominator_pos nan = pow_pos 0
denominator_pos (inf s) = pow_pos 0
denominator_pos (fin s m e) = down_pos e

-- a test of integers, of two sizes with their signs that are scaled apart
apart : (test : ℤ → ℤ → Bool) (s t : Bool) (a b c d : ℕ) → test (signed s (a * d)) (signed t (b * c)) ≡ test (signed s a *ℤ pos d) (signed t b *ℤ pos c)
apart test s t a b c d =
    ap (λ (z : ℤ). test z (signed t (b * c))) (sym (signed_times s a d)) ∙ ap (λ (z : ℤ). test (signed s a *ℤ pos d) z) (sym (signed_times t b c))

pub lt_value : (x y : Float) → is_number x ≡ true → is_number y ≡ true
    → Ieee.lt x y ≡ lt_z (numerator x *ℤ pos (denominator y)) (numerator y *ℤ pos (denominator x))
unfolding Ieee.lt is_number numerator denominator
lt_value nan y p q = absurd (true≢false (sym p))
lt_value (inf s) y p q = absurd (true≢false (sym p))
lt_value (fin s m e) nan p q = absurd (true≢false (sym q))
lt_value (fin s m e) (inf t) p q = absurd (true≢false (sym q))
lt_value (fin s m e) (fin t n d) p q = below_is s t (m * up e * down d) (n * up d * down e) ∙ apart lt_z s t (m * up e) (n * up d) (down e) (down d)

pub le_value : (x y : Float) → is_number x ≡ true → is_number y ≡ true
    → Ieee.le x y ≡ le_z (numerator x *ℤ pos (denominator y)) (numerator y *ℤ pos (denominator x))
unfolding Ieee.le is_number numerator denominator
le_value nan y p q = absurd (true≢false (sym p))
le_value (inf s) y p q = absurd (true≢false (sym p))
le_value (fin s m e) nan p q = absurd (true≢false (sym q))
le_value (fin s m e) (inf t) p q = absurd (true≢false (sym q))
le_value (fin s m e) (fin t n d) p q = level_is s t (m * up e * down d) (n * up d * down e) ∙ apart le_z s t (m * up e) (n * up d) (down e) (down d)
