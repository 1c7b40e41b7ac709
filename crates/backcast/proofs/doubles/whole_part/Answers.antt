-- low is never above x and high + 1 always is; where they meet, low is the quotient. What lies between is halved, so that they do meet.
use Rattle.std.proofs.Common.{refl, sym, ap, ◌∙◌}
use lib.Ieee.{Float, le}
use Rattle.backcast.proofs.Halving.{at_first, upper_half, lower_half, met}
use Rattle.backcast.proofs.doubles.whole_part.Goals as goal

pub loop-low-init : goal.loop-low-init
loop-low-init c = at_first c.args.x c.requires

pub loop-low-preserved-then-from-x : goal.loop-low-preserved-then-from-x
loop-low-preserved-then-from-x c =
    upper_half c.args.x c.requires c.loop-low.low c.loop-low.high _ c.loop-low.invariant c.loop-low-test.true refl (sym (ap (λ (y : Float). le y c.args.x) c.from.ensures) ∙ c.if-from-x.true)

pub loop-low-preserved : goal.loop-low-preserved
loop-low-preserved c =
    lower_half c.args.x c.requires c.loop-low.low c.loop-low.high _ c.loop-low.invariant c.loop-low-test.true refl (sym (ap (λ (y : Float). le y c.args.x) c.from.ensures) ∙ c.if-from-x.false)

pub returns : goal.returns
returns c = c.from-2.ensures ∙ met c.args.x c.loop-low.low c.loop-low.high c.loop-low.invariant c.loop-low-test.false
