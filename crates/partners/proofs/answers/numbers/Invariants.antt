-- The places passed have their account numbers, and 0 stands in the others.
use Rattle.std.proofs.Common.{◌≡◌, ◌-◌, ◌++◌, map, take}
use lib.ListN.{replicate}
use Rattle.partners.specs.Structs.{Partner}
use Rattle.partners.proofs.answers.numbers.Given as goal

abbrev pub invariant-loop-k : goal.invariant-loop-k
invariant-loop-k l = l.accounts ≡ map (λ (p : Partner). p.account) (take l.k l.partner-items) ++ replicate (16 - l.k) 0
