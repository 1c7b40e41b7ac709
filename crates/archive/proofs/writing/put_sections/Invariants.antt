-- The output holds the sections before those that are left.
use Rattle.archive.specs.Layout.{sections_of}
use Rattle.archive.proofs.Stores.{FilledSoFar}
use Rattle.archive.proofs.writing.put_sections.Given as goal

abbrev pub invariant-loop-section : goal.invariant-loop-section
invariant-loop-section l = FilledSoFar l.fn.out l.entries l.out (sections_of l.section-iterator.0.now) l.body l.offset
