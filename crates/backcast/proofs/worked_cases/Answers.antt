-- Each case is computed: the definitions, opened, give the answer that the case states.
use mathlib.Core.Path.{refl}
use lib.Ieee as Ieee
use Rattle.backcast.specs.Doubles.{is_number, numerator, denominator}
use Rattle.backcast.specs.Load.{all_numbers, load_of}
use Rattle.backcast.specs.Answers.{is_quantity, whole_part, accepted, refused, back_cast}
use Rattle.backcast.specs.WorkedCases.{WorkedCases}
use Rattle.backcast.proofs.worked_cases.Goals as goal

all : WorkedCases
unfolding Ieee.lt Ieee.add Ieee.sub Ieee.mul Ieee.round is_number numerator denominator all_numbers load_of is_quantity whole_part accepted refused back_cast
all =
    record {
      usual = (refl, refl, refl);
      turning = (refl, refl, refl);
      down = (refl, refl, refl, refl);
      below_nothing = (refl, refl, refl, refl, refl);
      most = (refl, refl, refl);
      rounded_each = (refl, refl);
      rounded_first = refl;
      too_large = (refl, refl, refl, refl, refl);
      no_numbers = (refl, refl, refl, refl, refl, refl, refl, refl);
    }

pub returns : goal.returns
returns c = all
