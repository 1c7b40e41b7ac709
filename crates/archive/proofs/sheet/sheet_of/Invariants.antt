-- The sheet so far, carried over the entries that are left, is the sheet of all.
use Rattle.archive.proofs.Columns.{NotedSoFar}
use Rattle.archive.proofs.sheet.sheet_of.Given as goal

abbrev pub invariant-loop-entry : goal.invariant-loop-entry
invariant-loop-entry l = NotedSoFar l.is_new l.entries l.year l.entry-index l.ledger l.sheet
