-- Dates compare as the definition says, by year, month and day.
use mathlib.Core.Path.{◌∙◌}
use Rattle.tariff.proofs.Calendar.{before_derived}
use Rattle.ledger.proofs.Admissions.{is_retired}
use Rattle.ledger.specs.Days.{letters_alone}
use Rattle.ledger.proofs.admission.retired.Goals as goal

pub returns-in-Transfer : goal.returns-in-Transfer
returns-in-Transfer c =
    is_retired c.args.is_new c.args.e c.in-Transfer.is c.lt.result (c.lt.ensures ∙ before_derived c.args.e.entry.date letters_alone)
