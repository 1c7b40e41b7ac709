-- R92: what the back-cast is, stated without the quotient that computes it.
use Rattle.std.specs.Prelude.{ℕ, suc, ◌*◌, ◌≤◌, pos, true, false, ◌≡◌, Float}
use Rattle.std.specs.Int.Signed.{le_z, lt_z}
use Rattle.tariff.specs.Bounds.{most_units}
use Rattle.backcast.specs.Structs.{LoadCurve}
use Rattle.backcast.specs.Doubles.{is_number, numerator, denominator}
use Rattle.backcast.specs.Load.{all_numbers, load_of}
use Rattle.backcast.specs.Answers.{is_quantity, accepted, refused, back_cast}

-- R92: of exact values, n ≤ x < n + 1, and no whole number not above x is larger than n.
pub record GreatestWhole (n : ℕ) (x : Float) : Type 0 where
  pub is_number : is_number x ≡ true
  pub not_above : le_z (pos (n * denominator x)) (numerator x) ≡ true
  pub next_is_above : lt_z (numerator x) (pos (suc n * denominator x)) ≡ true
  pub no_greater : (m : ℕ) → le_z (pos (m * denominator x)) (numerator x) ≡ true → m ≤ n

-- R92: every curve and temperature, whatever the four doubles are, gets one of three answers; none is larger than a DELIVER can hold.
pub record Answered (curve : LoadCurve) (f : Float) : Type 0 where
  pub no_numbers : all_numbers curve f ≡ false → back_cast curve f ≡ refused 31
  pub no_quantity : all_numbers curve f ≡ true → is_quantity (load_of curve f) ≡ false → back_cast curve f ≡ refused 32
  pub quantity :
      all_numbers curve f ≡ true → is_quantity (load_of curve f) ≡ true
      → (n : ℕ) × ((back_cast curve f ≡ accepted n) × (n ≤ most_units) × GreatestWhole n (load_of curve f))

abbrev pub EveryAnswer : Type 0
EveryAnswer = (curve : LoadCurve) (f : Float) → Answered curve f

-- R92: a number has at most one greatest whole number, so this says which one the answer is.
abbrev pub OnlyOne : Type 0
OnlyOne = (x : Float) (m n : ℕ) → GreatestWhole m x → GreatestWhole n x → m ≡ n
