-- One account after the other is reworked under the entry's terms, so the array is filled from the front.
use mathlib.Core.Path.{◌≡◌}
use Rattle.ledger.proofs.Lists.{filled}
use Rattle.ledger.specs.Terms.{reworked}
use Rattle.ledger.proofs.terms.terms_next.Given as goal

abbrev pub invariant-loop-a : goal.invariant-loop-a
invariant-loop-a l = l.a-items ≡ filled (reworked l.terms.value) l.fn.l.accounts l.fn.l.accounts l.a-index
