-- Fewer cells than 192 stay as they were; else the sheet is worked out and put into the first 192.
use Rattle.std.proofs.Common.{◌≡◌, ◌∙◌, ap, sym, List, ◌++◌, length, drop, false, true}
use borrow.Author.Tests.{le-ltb, lt-ltb}
use lib.Dec.{ltb}
use Rattle.archive.proofs.Answered.{no_room}
use Rattle.archive.proofs.Columns.{sheet_grid}
use Rattle.nedrulov.specs.Cells.{cells_after, cells_of}
use Rattle.tariff.specs.declared.amounts.Units.{Units}
use Rattle.nedrulov.proofs.cells.put_sheet.Goals as goal

pub returns-then-cells-lt192-clause-number : goal.returns-then-cells-lt192-clause-number
returns-then-cells-lt192-clause-number c = let short : ltb (length c.args.cells.now) 192 ≡ true = lt-ltb _ _ c.if-cells-lt192.true in rw short (sym no_room)

pub returns-then-cells-lt192-clause-cells : goal.returns-then-cells-lt192-clause-cells
unfolding cells_after
returns-then-cells-lt192-clause-cells c = let short : ltb (length c.args.cells.now) 192 ≡ true = lt-ltb _ _ c.if-cells-lt192.true in rw short

pub returns-clause-cells : goal.returns-clause-cells
unfolding cells_after
returns-clause-cells c =
    let d = c.args.cells.now in
    let long : ltb (length d) 192 ≡ false = le-ltb _ _ c.if-cells-lt192.false in
    rw long (c.put_cells.ensures ∙ ap (λ (t : List (List Units)). cells_of t ++ drop 192 d) c.year_sheet.ensures)

pub put_cells-requires : goal.put_cells-requires
put_cells-requires c = (c.if-cells-lt192.false, rw c.year_sheet.ensures (sheet_grid c.args.archive.now c.args.year))
