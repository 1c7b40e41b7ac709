-- Each claim is an induction over the list, whose step is the ledger's law of one posting.
use Rattle.history.proofs.Lines.{only_closings_count}
use Rattle.history.proofs.Histories.{banks_add_up, panel_adds_up, debts_add_up, days_add_up, striking_changes_nothing, letters_stand, moves_once, pairs_cross}
use Rattle.history.proofs.every_history.Goals as goal

pub returns-clause-banks : goal.returns-clause-banks
returns-clause-banks c = banks_add_up

pub returns-clause-panel : goal.returns-clause-panel
returns-clause-panel c = panel_adds_up

pub returns-clause-debts : goal.returns-clause-debts
returns-clause-debts c = debts_add_up

pub returns-clause-violation_days : goal.returns-clause-violation_days
returns-clause-violation_days c = days_add_up

pub returns-clause-struck : goal.returns-clause-struck
returns-clause-struck c = striking_changes_nothing

pub returns-clause-closings : goal.returns-clause-closings
returns-clause-closings c = only_closings_count

pub returns-clause-letters : goal.returns-clause-letters
returns-clause-letters c = letters_stand

pub returns-clause-once : goal.returns-clause-once
returns-clause-once c = moves_once

pub returns-clause-crossing : goal.returns-clause-crossing
returns-clause-crossing c = pairs_cross
