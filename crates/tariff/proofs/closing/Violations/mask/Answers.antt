-- A bit times its weight is the weight or 0, which the definition adds up.
use Rattle.std.proofs.Common.{◌≡◌, ◌+◌, ◌*◌, Bool, cond, true, false, refl}
use mir.Val.{bool_byte}
use Rattle.tariff.proofs.Bools.{weighed}
use Rattle.tariff.specs.Closing.{mask_of}
use Rattle.tariff.proofs.closing.Violations.mask.Goals as goal

bit : (t : Bool) → bool_byte t ≡ cond t 1 0
bit true = refl
bit false = refl

added_up : (v1 v2 v3 v4 v5 v6 v7 v8 : Bool) → mask_of v1 v2 v3 v4 v5 v6 v7 v8
    ≡ bool_byte v1 + 2 * bool_byte v2 + 4 * bool_byte v3 + 8 * bool_byte v4 + 16 * bool_byte v5 + 32 * bool_byte v6 + 64 * bool_byte v7 + 128 * bool_byte v8
unfolding mask_of
added_up v1 v2 v3 v4 v5 v6 v7 v8 = rw (bit v1, weighed 2 v2, weighed 4 v3, weighed 8 v4, weighed 16 v5, weighed 32 v6, weighed 64 v7, weighed 128 v8)

pub returns-clause-value : goal.returns-clause-value
returns-clause-value c =
    cc (added_up c.args.self.v1 c.args.self.v2 c.args.self.v3 c.args.self.v4 c.args.self.v5 c.args.self.v6 c.args.self.v7 c.args.self.v8)
