-- One account after the other: what was closed so far and the accounts still to come together say what the rule says.
use mathlib.Core.Path.{◌≡◌}
use mathlib.Core.Bool.{true}
use Rattle.ledger.proofs.ClosedSoFar.{Agrees, Ready, Stays, accounts_to, reports_to}
use Rattle.ledger.specs.State.{held_in}
use Rattle.tariff.specs.Dates.{last_of_month}
use Rattle.tariff.specs.Holidays.{on_measurement_day}
use Rattle.ledger.proofs.closings.close_all.Given as goal

abbrev pub invariant-loop-i : goal.invariant-loop-i
invariant-loop-i l =
    record {
      stored : l.accounts ≡ accounts_to l.l l.e.entry l.i;
      reported : l.reports ≡ reports_to l.l l.e.entry l.i;
      complete : Agrees l.l l.i (Ready l.l l.e.entry) true;
      fits : Stays l.l l.e.entry l.i l.stays;
      ends : l.ends ≡ last_of_month l.e.entry.date;
      reads : l.reads ≡ on_measurement_day (held_in l.l) l.e.entry.date;
    }
