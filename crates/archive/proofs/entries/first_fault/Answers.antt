-- Entry k has the first refusal, or passes too.
use Rattle.archive.proofs.FirstFaults.{none_refused, entry_refused, entry_passed}
use Rattle.archive.proofs.entries.first_fault.Goals as goal

pub returns-in-Err : goal.returns-in-Err
returns-in-Err g c = entry_refused _ _ _ _ c.loop-k.invariant _ c.loop-k-test.true c.in-Err.fault c.in-Err.ensures

pub loop-k-preserved : goal.loop-k-preserved
loop-k-preserved g c = entry_passed _ _ _ _ c.loop-k.invariant _ c.loop-k-test.true c.in_default.ensures

pub returns : goal.returns
returns g c = none_refused _ _ _ _ c.loop-k.invariant c.loop-k-test.false
