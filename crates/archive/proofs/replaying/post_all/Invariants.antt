-- What is counted so far, with what the entries that are left will count, is what all of them count.
use Rattle.archive.proofs.Replays.{PostedSoFar}
use Rattle.archive.proofs.replaying.post_all.Given as goal

abbrev pub invariant-loop-entry : goal.invariant-loop-entry
invariant-loop-entry l = PostedSoFar l.is_new l.entries l.entry-index l.ledger l.accepted l.refused
