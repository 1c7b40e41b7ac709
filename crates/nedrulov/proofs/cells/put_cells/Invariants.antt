-- After k turns the first k cells are those of the sheet and the rest is as it was.
use Rattle.std.proofs.Common.{◌≡◌, length}
use lib.Seq.{paste}
use Rattle.nedrulov.specs.Cells.{cells_of}
use Rattle.nedrulov.proofs.cells.put_cells.Given as goal

abbrev pub invariant-loop-k : goal.invariant-loop-k
invariant-loop-k l = (length l.cells ≡ length l.fn.cells) × (l.cells ≡ paste l.fn.cells 0 (cells_of l.sheet) l.k)
