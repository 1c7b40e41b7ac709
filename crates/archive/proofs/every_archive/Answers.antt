-- The entries that an archive holds are a list like any other, so what the ledger shows of every list holds of them.
use mathlib.Core.Path.{ap}
use Rattle.ledger.specs.declared.panels.Panel.{Panel}
use Rattle.history.proofs.Histories.{banks_add_up, panel_adds_up, debts_add_up, days_add_up, striking_changes_nothing}
use Rattle.archive.specs.Reading.{is_new}
use Rattle.archive.specs.Replay.{fresh_for, entries_in, replayed, figures_of, BanksAddUp, FigureAddsUp, DebtsAddUp, DaysAddUp, StrikingChangesNothing}
use Rattle.archive.proofs.every_archive.Goals as goal

banks : BanksAddUp
unfolding replayed fresh_for
banks a = banks_add_up (is_new a) (entries_in a)

figure : FigureAddsUp
unfolding replayed fresh_for figures_of
figure a = ap (λ (p : Panel). p.figure) (panel_adds_up (is_new a) (entries_in a))

debts : DebtsAddUp
unfolding replayed fresh_for
debts a = debts_add_up (is_new a) (entries_in a)

days : DaysAddUp
unfolding replayed fresh_for
days a = days_add_up (is_new a) (entries_in a)

struck : StrikingChangesNothing
unfolding replayed fresh_for
struck a = striking_changes_nothing (is_new a) (entries_in a)

pub returns-clause-banks : goal.returns-clause-banks
returns-clause-banks c = banks

pub returns-clause-figure : goal.returns-clause-figure
returns-clause-figure c = figure

pub returns-clause-debts : goal.returns-clause-debts
returns-clause-debts c = debts

pub returns-clause-violation_days : goal.returns-clause-violation_days
returns-clause-violation_days c = days

pub returns-clause-struck : goal.returns-clause-struck
returns-clause-struck c = struck
