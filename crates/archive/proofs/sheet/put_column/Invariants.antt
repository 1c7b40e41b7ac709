-- The first so many rows have the account's bank in the month's column.
use Rattle.archive.proofs.Columns.{Filled}
use Rattle.archive.proofs.sheet.put_column.Given as goal

abbrev pub invariant-loop-i : goal.invariant-loop-i
invariant-loop-i l = Filled l.ledger l.month l.fn.sheet l.sheet l.i
