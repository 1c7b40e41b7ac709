-- Both accounts that the entry names are among the sixteen, and in range.
use Rattle.std.proofs.Common.{rules}
use Rattle.ledger.proofs.Lists.{length_mapped}
use Rattle.ledger.proofs.TwoAccounts.{Pair, transfer}
use Rattle.ledger.proofs.transfer.post_transfer.Goals as goal
use Rattle.ledger.proofs.transfer.post_transfer.Goals.{Start}

start : (c : Start) → Pair c.args.l.now c.args.e.entry
start c = transfer c.args.l.now c.args.e (search (rules, length_mapped)) c.requires.0 c.requires.1

pub hand_on-requires-clause-places : goal.hand_on-requires-clause-places
hand_on-requires-clause-places c = let p = start (search) in (p.a, p.b)

pub hand_on-requires-clause-in_range : goal.hand_on-requires-clause-in_range
hand_on-requires-clause-in_range c = let p = start (search) in (p.writes, p.named, p.fits)
