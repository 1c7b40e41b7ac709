-- R94: cases worked out in advance: no back-cast that rounds otherwise, looks at the other side of the turning temperature or refuses in another
-- order meets them.
use Rattle.std.specs.Prelude.{ℕ, pos, true, false, ◌≡◌, Float, ◌^◌}
use Rattle.backcast.specs.Vocabulary.{nan, inf, fin, binary64, round}
use Rattle.backcast.specs.Structs.{BackCast}
use Rattle.backcast.specs.Load.{load_of}
use Rattle.backcast.specs.Answers.{accepted, refused, back_cast}

-- R89: the doubles nearest to a / b and to −a / b, and to a whole number.
abbrev pub double : ℕ → ℕ → Float
double a b = round binary64 false a b

abbrev pub minus : ℕ → ℕ → Float
minus a b = round binary64 true a b

abbrev pub whole : ℕ → Float
whole n = double n 1

-- R89: the largest double, (2^53 − 1) × 2^971, and the one that is as far below 0.
abbrev pub largest : Float
largest = fin false 9007199254740991 (pos 971)

abbrev pub lowest : Float
lowest = fin true 9007199254740991 (pos 971)

-- R90: a curve with base load, slope and turning temperature, and its back-cast at a temperature.
abbrev pub answer_at : Float → Float → Float → Float → BackCast
answer_at base slope turning f = back_cast (record { base = base; slope = slope; turning = turning }) f

-- R90: a degree below the turning temperature the slope alone makes the load.
abbrev pub answer_to : Float → BackCast
answer_to slope = answer_at (whole 0) slope (whole 1) (whole 0)

-- R90, R91: the cases.
pub record WorkedCases : Type 0 where
  -- R90: 520.00 Dth and 61.75 more a degree, at 31.7 degrees with a turning temperature of 65, at 65 and at 95.
  pub usual :
      (answer_at (whole 52000) (whole 6175) (whole 65) (double 317 10) ≡ accepted 257627)
      × (answer_at (whole 52000) (whole 6175) (whole 65) (whole 65) ≡ accepted 52000)
      × (answer_at (whole 52000) (whole 6175) (whole 65) (whole 95) ≡ accepted 52000)
  -- R90: a slope of 2^46 makes a unit of the distance between 65 and the double before it; at 65 and at the double after it there is the base load.
  pub turning :
      (answer_at (whole 100) (whole 70368744177664) (whole 65) (double 4573968371548159 70368744177664) ≡ accepted 101)
      × (answer_at (whole 100) (whole 70368744177664) (whole 65) (whole 65) ≡ accepted 100)
      × (answer_at (whole 100) (whole 70368744177664) (whole 65) (double 4573968371548161 70368744177664) ≡ accepted 100)
  -- R91: rounded down: the double before 1, 1 itself, and a half and three quarters above a whole number.
  pub down :
      (answer_to (double 9007199254740991 9007199254740992) ≡ accepted 0)
      × (answer_to (whole 1) ≡ accepted 1)
      × (answer_to (double 3 2) ≡ accepted 1)
      × (answer_to (double 11 4) ≡ accepted 2)
  -- R91: below 0 there is none, however little; −0 is 0.
  pub below_nothing :
      (answer_to (minus 1 2) ≡ refused 32)
      × (answer_to (minus 1 (2 ^ 1074)) ≡ refused 32)
      × (answer_to (double 1 (2 ^ 1074)) ≡ accepted 0)
      × (load_of (record { base = minus 0 1; slope = minus 0 1; turning = whole 1 }) (whole 0) ≡ minus 0 1)
      × (answer_at (minus 0 1) (minus 0 1) (whole 1) (whole 0) ≡ accepted 0)
  -- R91: 10^9, and the doubles before and after it.
  pub most :
      (answer_to (whole 1000000000) ≡ accepted 1000000000)
      × (answer_to (double 8388607999999999 8388608) ≡ accepted 999999999)
      × (answer_to (double 8388608000000001 8388608) ≡ refused 32)
  -- R90: the product is rounded before the sum. A third of 2^30, rounded, times 3 is a little less than 2^30, and rounds to it; without that,
  -- the first would be 4 and the second below 0.
  pub rounded_each :
      (answer_at (minus 1073741819 1) (double 1073741824 3) (whole 3) (whole 0) ≡ accepted 5)
      × (answer_at (minus 1 1) (double 1 3) (whole 3) (whole 0) ≡ accepted 0)
  -- R90: so is the difference before the product: 1 + 2^-53 rounds to 1. Without that, a slope of 3 × 2^51 would make a unit more of it.
  pub rounded_first : answer_at (minus 6755399441055744 1) (whole 6755399441055744) (whole 1) (minus 1 9007199254740992) ≡ accepted 0
  -- R91: an infinity that arises on the way, of either sign, and one times 0, which is no number.
  pub too_large :
      (answer_at (whole 0) (whole 1) largest lowest ≡ refused 32)
      × (answer_at (whole 0) (minus 1 1) largest lowest ≡ refused 32)
      × (answer_at (whole 0) (whole 0) largest lowest ≡ refused 32)
      × (answer_at (whole 0) largest (whole 2) (whole 0) ≡ refused 32)
      × (answer_at largest largest (whole 1) (whole 0) ≡ refused 32)
  -- R91: each of the four, where it is no number; also a slope that the load does not need, and where the load is below 0 too.
  pub no_numbers :
      (answer_at nan (whole 1) (whole 1) (whole 0) ≡ refused 31)
      × (answer_at (inf false) (whole 1) (whole 1) (whole 0) ≡ refused 31)
      × (answer_at (whole 5) nan (whole 1) (whole 2) ≡ refused 31)
      × (answer_at (whole 5) (inf true) (whole 1) (whole 2) ≡ refused 31)
      × (answer_at (whole 5) (whole 1) (inf true) (whole 2) ≡ refused 31)
      × (answer_at (whole 5) (whole 1) (whole 1) (inf false) ≡ refused 31)
      × (answer_at (minus 1 1) (whole 1) (whole 1) nan ≡ refused 31)
      × (answer_at (minus 1 1) (whole 1) (whole 1) (whole 2) ≡ refused 32)
