-- Each turn reworks one account more, which is still as it came.
use Rattle.std.proofs.Common.{rules, ◌≡◌, length, arith, ap, ◌∙◌}
use Rattle.ledger.proofs.Admissions.{is_ranged}
use Rattle.ledger.proofs.Bounded.{account_ranged}
use Rattle.ledger.proofs.Lists.{ahead, filled_end, length_mapped, written}
use Rattle.ledger.proofs.RightEntries.{terms_fit}
use Rattle.ledger.specs.Kinds.{code}
use Rattle.ledger.specs.State.{account_at, no_month, no_today, no_totals, nobody}
use Rattle.ledger.specs.Terms.{reworked, terms_next}
use Rattle.ledger.proofs.terms.terms_next.Goals as goal
use Rattle.ledger.proofs.terms.terms_next.Goals.{Start}

sixteen : (c : Start) → length c.args.l.now.accounts ≡ 16
sixteen c = search (rules, length_mapped)

pub of-terms-requires : goal.of-terms-requires
unfolding code
of-terms-requires c = rw c.terms.ensures (terms_fit c.args.e.entry c.args.e.right (c.args.e.named ∙ ap code c.requires.1))

pub of-requires : goal.of-requires
unfolding nobody no_totals no_month no_today account_at
of-requires c =
    let n = sixteen (search) in
    rw (c.loop-a.invariant, ahead (reworked c.of-terms.result.value) c.args.l.now.accounts c.loop-a.a-index nobody (omega arith)) (account_ranged c.args.l.now c.loop-a.a-index n (omega arith) (is_ranged c.args.l.now c.args.e.entry c.requires.0))

pub loop-a-preserved : goal.loop-a-preserved
unfolding nobody no_totals no_month no_today
loop-a-preserved c =
    let n = sixteen (search) in
    rw (c.reworked.ensures, c.of.ensures) (written (reworked c.of-terms.result.value) c.args.l.now.accounts c.loop-a.a-items c.loop-a.a-index nobody (omega arith) c.loop-a.invariant)

pub returns : goal.returns
unfolding terms_next
returns c =
    let n = sixteen (search) in
    rw (
      c.loop-a.invariant,
      filled_end (reworked c.of-terms.result.value) c.args.l.now.accounts c.args.l.now.accounts c.loop-a.a-index (omega arith) (omega arith),
      c.get-next.ensures.value,
      c.of-terms.ensures,
      c.terms.ensures,
    )
