use Rattle.std.proofs.Common.{◌-◌}
use Rattle.backcast.proofs.Halving.{Between}
use Rattle.backcast.proofs.doubles.whole_part.Given as goal

abbrev pub invariant-loop-low : goal.invariant-loop-low
invariant-loop-low l = Between l.x l.low l.high

abbrev pub decreases-loop-low : goal.decreases-loop-low
decreases-loop-low l = l.high - l.low
