-- The one account that an admitted entry names is among the sixteen and in range, under terms in force.
use Rattle.std.proofs.Common.{rules, arith}
use Rattle.ledger.proofs.Lists.{length_mapped}
use Rattle.ledger.proofs.OneAccount.{Single, alone}
use Rattle.ledger.specs.State.{account_at, no_month, no_today, no_totals, nobody}
use Rattle.ledger.proofs.postings.post_one.Goals as goal
use Rattle.ledger.proofs.postings.post_one.Goals.{Start}

start : (c : Start) → Single c.args.l.now c.args.e.entry
start c = alone c.args.l.now c.args.e (search (rules, length_mapped)) c.requires.0 c.requires.1

pub of-terms-requires : goal.of-terms-requires
of-terms-requires c = (start (search)).in_force

pub bounds-l-i : goal.bounds-l-i
bounds-l-i c = (start (search)).index

pub offset_bounds-l-i : goal.offset_bounds-l-i
offset_bounds-l-i c = omega (arith, start (search))

pub of-a-requires : goal.of-a-requires
unfolding account_at nobody no_totals no_month no_today
of-a-requires c = (start (search)).ranged

pub bounds-l-i-2 : goal.bounds-l-i-2
bounds-l-i-2 c = (start (search)).index

pub offset_bounds-l-i-2 : goal.offset_bounds-l-i-2
offset_bounds-l-i-2 c = omega (arith, start (search))
