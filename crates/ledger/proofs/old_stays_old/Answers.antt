-- Each claim is a law of one posting.
use Rattle.ledger.proofs.AlikeLedgers.{accepts_alike, alike_otherwise, reports_alike}
use Rattle.ledger.proofs.OldLedgers.{keeps_which, nine_kinds, stays_as_before, stays_unlettered, stays_unnamed, forfeits_by_rule}
use Rattle.ledger.proofs.Retired.{refuses_too_late, retired_only}
use Rattle.ledger.proofs.old_stays_old.Goals as goal

pub returns-clause-kept : goal.returns-clause-kept
returns-clause-kept c = keeps_which

pub returns-clause-nine_kinds : goal.returns-clause-nine_kinds
returns-clause-nine_kinds c = nine_kinds

pub returns-clause-as_before : goal.returns-clause-as_before
returns-clause-as_before c = stays_as_before

pub returns-clause-unnamed : goal.returns-clause-unnamed
returns-clause-unnamed c = stays_unnamed

pub returns-clause-unlettered : goal.returns-clause-unlettered
returns-clause-unlettered c = stays_unlettered

pub returns-clause-retires : goal.returns-clause-retires
returns-clause-retires c = retired_only

pub returns-clause-refuses : goal.returns-clause-refuses
returns-clause-refuses c = refuses_too_late

pub returns-clause-forfeits : goal.returns-clause-forfeits
returns-clause-forfeits c = forfeits_by_rule

pub returns-clause-reports : goal.returns-clause-reports
returns-clause-reports c = reports_alike

pub returns-clause-accepts : goal.returns-clause-accepts
returns-clause-accepts c = accepts_alike

pub returns-clause-alike : goal.returns-clause-alike
returns-clause-alike c = alike_otherwise
