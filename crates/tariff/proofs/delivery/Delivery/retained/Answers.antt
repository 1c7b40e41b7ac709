-- Two quantities of at most 10^9 differ by no more, and 10,000 times that still fits an i64; division rounds toward zero in the code and in the definition.
use Rattle.std.proofs.Common.{◌≡◌, ◌≤◌, ℕ, refl, ◌-◌, ◌*◌, w64, pos, ◌-ℤ◌, ◌*ℤ◌, to_z, of_z, FitsSigned, arith}
use Rattle.std.proofs.lemmas.Int.{ints, to_z-of_z, fits_signed_from_abs}
use Rattle.tariff.specs.Delivery.{retained}
use Rattle.tariff.proofs.Results.{retained_le}
use Rattle.tariff.proofs.Signed.{size_naturals, size_product, size_quotient_is}
use native.Mathlib.Nat.{mul-le-mul}
use lib.IntN.{nat_abs}
use lib.Signed.{quot_z}
use Rattle.tariff.proofs.delivery.Delivery.retained.Goals as goal

-- what the machine makes of (d − b) × k / 10,000
module _ (d b k : ℕ) (hd : d ≤ 1000000000) (hb : b ≤ 1000000000) (hk : k ≤ 10000) where
  product_size : nat_abs ((pos d -ℤ pos b) *ℤ pos k) ≤ 1000000000 * 10000
  product_size = let far : nat_abs (pos d -ℤ pos b) ≤ 1000000000 = omega (arith, size_naturals d b) in rw (size_product (pos d -ℤ pos b) (pos k)) (mul-le-mul far hk)

  machine : to_z w64 (of_z w64 (quot_z (to_z w64 (of_z w64 (to_z w64 (of_z w64 (pos d -ℤ pos b)) *ℤ pos k))) (pos 10000))) ≡ quot_z ((pos d -ℤ pos b) *ℤ pos k) (pos 10000)
  machine =
      let difference : FitsSigned w64 (pos d -ℤ pos b) = fits_signed_from_abs w64 _ (omega (arith, size_naturals d b)) in
      let product : FitsSigned w64 ((pos d -ℤ pos b) *ℤ pos k) = fits_signed_from_abs w64 _ (omega (arith, product_size)) in
      let quotient : FitsSigned w64 (quot_z ((pos d -ℤ pos b) *ℤ pos k) (pos 10000)) = fits_signed_from_abs w64 _ (omega (arith, product_size, size_quotient_is ((pos d -ℤ pos b) *ℤ pos k) 10000)) in
      rw (to_z-of_z w64 (pos d -ℤ pos b), to_z-of_z w64 ((pos d -ℤ pos b) *ℤ pos k), to_z-of_z w64 (quot_z ((pos d -ℤ pos b) *ℤ pos k) (pos 10000)))

pub returns : goal.returns
unfolding retained
returns c =
    let d : to_z w64 (of_z w64 c.cast_signed.result) ≡ pos c.args.self.delivered.0 = omega (arith, ints) in
    let b : to_z w64 (of_z w64 c.cast_signed-2.result) ≡ pos c.args.self.back_cast.0 = omega (arith, ints) in
    let k : to_z w64 (of_z w64 c.cast_signed-keep.result) ≡ pos (10000 - c.args.self.retainage) = omega (arith, ints) in
    rw (d, b, k, machine c.args.self.delivered.0 c.args.self.back_cast.0 (10000 - c.args.self.retainage) c.args.self.fits.1 c.args.self.fits.2 (omega arith))
    record {
      value = refl;
      bounded = retained_le c.args.self.retainage c.args.self.delivered c.args.self.back_cast c.args.self.fits.1 c.args.self.fits.2;
    }
