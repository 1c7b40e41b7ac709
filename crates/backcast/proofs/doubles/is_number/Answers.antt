-- One divided by zero is the infinity above all numbers, and its opposite the one below; what lies between them is a number.
use lib.Ieee as Ieee
use Rattle.backcast.proofs.Values.{between}
use Rattle.backcast.proofs.doubles.is_number.Goals as goal

pub returns : goal.returns
unfolding Ieee.div Ieee.neg Ieee.of_bits
returns c = between c.args.x
