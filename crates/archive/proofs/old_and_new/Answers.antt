-- The fourth byte says which an archive is, and the writer puts it there.
use Rattle.archive.proofs.OldArchives.{fourth_byte_tells, one_byte_apart, old_is_not_new, old_kinds_only, later_kinds_refused}
use Rattle.archive.proofs.old_and_new.Goals as goal

pub returns-clause-fourth_byte : goal.returns-clause-fourth_byte
returns-clause-fourth_byte c = fourth_byte_tells

pub returns-clause-one_byte : goal.returns-clause-one_byte
returns-clause-one_byte c = one_byte_apart

pub returns-clause-apart : goal.returns-clause-apart
returns-clause-apart c = old_is_not_new

pub returns-clause-old_kinds : goal.returns-clause-old_kinds
returns-clause-old_kinds c = old_kinds_only

pub returns-clause-later_kinds : goal.returns-clause-later_kinds
returns-clause-later_kinds c = later_kinds_refused
