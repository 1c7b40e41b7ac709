-- The first refusal of the sections that are left is that of the file, as all before them passed.
use Rattle.archive.proofs.Numbering.{CheckedSoFar}
use Rattle.archive.proofs.reading.Archive.check_sections.Given as goal

abbrev pub invariant-loop-pair : goal.invariant-loop-pair
invariant-loop-pair l = CheckedSoFar l.self.bytes.now l.pair-items l.pair-index l.is_new l.first
