-- R91: the back-cast, or why there is none.
use Rattle.std.specs.Prelude.{ℕ, ◌*◌, ◌/◌, pos, nat_abs, Bool, cond, ◌&&◌, Float, Result, Ok, Err}
use Rattle.std.specs.Int.Signed.{le_z}
use Rattle.tariff.specs.Bounds.{most_units}
use Rattle.backcast.specs.Structs.{BackCast, LoadCurve, NoBackCast, Quantity}
use Rattle.backcast.specs.declared.answers.NoBackCast.TheVariants as no
use Rattle.backcast.specs.Doubles.{is_number, numerator, denominator}
use Rattle.backcast.specs.Load.{all_numbers, load_of}

-- R91: a number from 0 to 10^9, the gas that a DELIVER may tell of; −0 is 0.
unfoldable pub is_quantity : Float → Bool
is_quantity x = is_number x && le_z (pos 0) (numerator x) && le_z (numerator x) (pos (most_units * denominator x))

-- R91: the greatest whole number not above a number that is not below 0.
unfoldable pub whole_part : Float → ℕ
whole_part x = nat_abs (numerator x) / denominator x

-- R91: an answer with number 0 and so many units; a refusal has none.
unfoldable pub accepted : ℕ → BackCast
accepted units = record { number = 0; quantity = record { 0 = units } }

unfoldable pub refused : ℕ → BackCast
refused number = record { number = number; quantity = record { 0 = 0 } }

-- R91: 31 looks at what is handed in, 32 at the load.
unfoldable pub back_cast : LoadCurve → Float → BackCast
back_cast curve f =
    cond (all_numbers curve f)
    (cond (is_quantity (load_of curve f)) (accepted (whole_part (load_of curve f))) (refused 32))
    (refused 31)

-- R91: the number of each reason, and what a quantity or the reason why there is none is answered.
unfoldable pub number : NoBackCast → ℕ
number no.NotANumber = 31
number no.NoQuantity = 32

unfoldable pub answered : Result Quantity NoBackCast → BackCast
answered (Ok q) = accepted q.0
answered (Err r) = refused (number r)
