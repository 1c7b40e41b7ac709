-- The pairs that are left, after the end reached, are right just where all are, as those before were.
use Rattle.archive.proofs.Pairs.{RightSoFar}
use Rattle.archive.proofs.reading.right_directory.Given as goal

abbrev pub invariant-loop-pair : goal.invariant-loop-pair
invariant-loop-pair l = RightSoFar l.bytes l.pair-items l.pair-index l.end
