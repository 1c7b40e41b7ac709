-- A letter that is neither refused nor answered stands, as nothing is left to be asked.
use Rattle.std.proofs.Common.{rules, arith}
use mathlib.Core.Path.{sym, ◌∙◌}
use Rattle.ledger.specs.State.{account_at, no_month, no_today, no_totals, nobody}
use Rattle.ledger.proofs.Exchanges.{letter_stands}
use Rattle.ledger.proofs.Lists.{length_mapped}
use Rattle.ledger.proofs.TwoAccounts.{Pair, notice, written_ranged}
use Rattle.ledger.proofs.notice.post_notice.Goals as goal
use Rattle.ledger.proofs.notice.post_notice.Goals.{Start}

start : (c : Start) → Pair c.args.l.now c.args.e.entry
start c = notice c.args.l.now c.args.e (search (rules, length_mapped)) c.requires.0 c.requires.1

pub offset_bounds-l-i : goal.offset_bounds-l-i
offset_bounds-l-i c = omega (arith, start (search))

pub bounds-l-i : goal.bounds-l-i
bounds-l-i c = (start (search)).a

pub offset_bounds-l-j : goal.offset_bounds-l-j
offset_bounds-l-j c = omega (arith, start (search))

pub bounds-l-j : goal.bounds-l-j
bounds-l-j c = (start (search)).b

pub returns : goal.returns
unfolding account_at nobody no_totals no_month no_today
returns c =
    letter_stands c.args.l.now c.args.e.entry c.if-not-l-i.false c.if-l-i.false (sym c.awaits.ensures ∙ c.if-awaits.false) (start (search)).writes
    (written_ranged c.args.l.now c.args.e (search (rules, length_mapped)) c.requires.0 c.requires.1) c.with_notice.result (rw (← c.written.ensures) c.with_notice.ensures)
