-- The output holds the pairs of the sections before those that are left.
use Rattle.archive.specs.Layout.{sections_of}
use Rattle.archive.proofs.Stores.{PairsSoFar}
use Rattle.archive.proofs.writing.put_directory.Given as goal

abbrev pub invariant-loop-section : goal.invariant-loop-section
invariant-loop-section l = PairsSoFar l.fn.out l.entries l.out (sections_of l.section-iterator.0.now) l.count l.at l.offset
