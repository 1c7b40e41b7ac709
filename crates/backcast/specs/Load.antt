-- R90: the load at a temperature.
use Rattle.std.specs.Prelude.{Bool, cond, ◌&&◌, Float}
use Rattle.backcast.specs.Vocabulary.{binary64, sub, mul, add, lt}
use Rattle.backcast.specs.Structs.{LoadCurve}
use Rattle.backcast.specs.Doubles.{is_number}

-- R90: the three of the curve and the temperature are numbers.
unfoldable pub all_numbers : LoadCurve → Float → Bool
all_numbers curve f = is_number curve.base && is_number curve.slope && is_number curve.turning && is_number f

-- R90: at temperature f, in units: a difference, a product and a sum, each rounded by itself, below the turning temperature; else the base load.
unfoldable pub load_of : LoadCurve → Float → Float
load_of curve f =
    cond (lt f curve.turning)
    (add binary64 curve.base (mul binary64 curve.slope (sub binary64 curve.turning f)))
    curve.base
