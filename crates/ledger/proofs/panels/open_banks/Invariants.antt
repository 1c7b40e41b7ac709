-- One account after the other: the figure so far and the banks still to come are the whole sum; each bank is in range, so the figure stays small.
use Prim.Native.Nat.{◌*◌, ◌≤◌}
use mathlib.Core.Path.{◌≡◌}
use lib.IntN.{◌+ℤ◌}
use lib.ListN.{drop}
use Rattle.ledger.specs.Panel.{open_banks}
use Rattle.tariff.specs.Amounts.{size}
use Rattle.ledger.proofs.panels.open_banks.Given as goal

abbrev pub invariant-loop-a : goal.invariant-loop-a
invariant-loop-a l =
    record {
      whole : l.figure.0 +ℤ open_banks (drop l.a-index l.ledger.accounts) ≡ open_banks l.ledger.accounts;
      small : size l.figure ≤ 100000000000 * l.a-index;
    }
