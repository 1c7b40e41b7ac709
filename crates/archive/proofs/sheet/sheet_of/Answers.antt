-- The sheet so far, carried over the entries that are left, is the sheet of all: posting an entry and noting it carries the sheet over one more.
use Rattle.std.proofs.Common.{refl, ap, ◌∙◌}
use Rattle.tariff.specs.Months.{gas_month}
use Rattle.archive.specs.YearSheet.{grid, up_to, no_bank}
use Rattle.archive.proofs.Columns.{none_noted, one_noted, same_noted, all_noted}
use Rattle.archive.proofs.sheet.sheet_of.Goals as goal
use Rattle.archive.proofs.sheet.sheet_of.Goals.{then-accepted-closes_month, else-accepted-closes_month}

pub loop-entry-init : goal.loop-entry-init
unfolding grid up_to no_bank
loop-entry-init c = none_noted _ _ _ _ _ c.fresh-ledger.ensures refl

pub put_column-requires : goal.put_column-requires
put_column-requires c = (c.loop-entry.invariant.cells, c.gas_month.ensures.1)

pub loop-entry-preserved : goal.loop-entry-preserved
loop-entry-preserved c =
    elim c.if-accepted-closes_month.branch [
      | then-accepted-closes_month w ↦ one_noted _ _ _ _ _ _ c.loop-entry.invariant _ c.loop-entry-test.true c.post_in-answer.result c.post_in-answer.new.ledger c.post_in-answer.ensures.answer c.post_in-answer.ensures.stored _ _ _ c.accepted.ensures c.closes_month.ensures c.in_gas_year.ensures
          w.if-accepted-closes_month.true w.gas_month.result (w.gas_month.ensures.0 ∙ ap (λ n. gas_month (record { 0 = n })) w.from.ensures) c.if-accepted-closes_month.sheet (w.sheet-is ∙ w.put_column.ensures)
      | else-accepted-closes_month w ↦ rw w.sheet-is (same_noted _ _ _ _ _ _ c.loop-entry.invariant _ c.loop-entry-test.true c.post_in-answer.result c.post_in-answer.new.ledger c.post_in-answer.ensures.answer c.post_in-answer.ensures.stored _ _ _ c.accepted.ensures c.closes_month.ensures c.in_gas_year.ensures
          w.if-accepted-closes_month.false)
    ]

pub returns : goal.returns
returns c = all_noted _ _ _ _ _ _ c.loop-entry.invariant c.loop-entry-test.false
