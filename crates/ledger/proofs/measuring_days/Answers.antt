-- Each claim is a law of one posting, or of the dates that are held.
use Rattle.ledger.proofs.Measured.{drops_passed, every_month_measured, holds_it, keeps_order, moves_measuring, same_today, stays_in_range_lem, stored_anew}
use Rattle.ledger.proofs.OldLedgers.{places_stay}
use Rattle.ledger.proofs.measuring_days.Goals as goal

pub returns-clause-in_range : goal.returns-clause-in_range
returns-clause-in_range c = stays_in_range_lem

pub returns-clause-every_month : goal.returns-clause-every_month
returns-clause-every_month c = every_month_measured

pub returns-clause-places : goal.returns-clause-places
returns-clause-places c = places_stay

pub returns-clause-anew : goal.returns-clause-anew
returns-clause-anew c = stored_anew

pub returns-clause-drops : goal.returns-clause-drops
returns-clause-drops c = drops_passed

pub returns-clause-order : goal.returns-clause-order
returns-clause-order c = keeps_order

pub returns-clause-holds : goal.returns-clause-holds
returns-clause-holds c = holds_it

pub returns-clause-same_today : goal.returns-clause-same_today
returns-clause-same_today c = same_today

pub returns-clause-moves : goal.returns-clause-moves
returns-clause-moves c = moves_measuring
