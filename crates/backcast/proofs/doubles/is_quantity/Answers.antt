-- The two constants are 0 and 10^9, and comparing with them asks what the definition asks.
use lib.Ieee as Ieee
use Rattle.backcast.proofs.WholeParts.{quantity_is}
use Rattle.backcast.proofs.doubles.is_quantity.Goals as goal

pub returns : goal.returns
unfolding Ieee.of_bits
returns c = quantity_is c.args.x
