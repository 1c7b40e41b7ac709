-- Row by row the month's cell takes the account's bank; after 16 rows the whole column has.
use Rattle.archive.proofs.Columns.{none_filled, all_filled, row_filled}
use Rattle.archive.proofs.sheet.put_column.Goals as goal

pub loop-i-init : goal.loop-i-init
loop-i-init c = none_filled _ _ _ c.requires.0

pub loop-i-preserved : goal.loop-i-preserved
loop-i-preserved c = row_filled _ _ _ _ _ c.loop-i.invariant c.loop-i-test.true c.requires.1 c.bank.result c.bank.ensures

pub returns : goal.returns
returns c = all_filled _ _ _ _ _ c.loop-i.invariant c.loop-i-test.false
