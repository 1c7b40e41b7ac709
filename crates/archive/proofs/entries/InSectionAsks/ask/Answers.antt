-- An entry's own number comes before 10.
use Rattle.ledger.proofs.Refused.{refuses}
use Rattle.archive.specs.Reading.{number_in}
use Rattle.archive.specs.Faults.{fault_number}
use Rattle.archive.proofs.Answered.{handed_on}
use Rattle.archive.proofs.entries.InSectionAsks.ask.Goals as goal

pub returns-in_err-check_entry : goal.returns-in_err-check_entry
unfolding fault_number number_in
returns-in_err-check_entry c = rw (handed_on _ _ c.from_residual.ensures.1, c.in_err-check_entry.ensures, refuses c.in_err-check_entry.field-0.0)
