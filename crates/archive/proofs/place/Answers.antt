-- The checks come first; then the directory is asked for its pair i.
use Rattle.archive.proofs.Answered.{handed_on}
use Rattle.archive.proofs.Places.{refused_place, asked}
use Rattle.archive.proofs.place.Goals as goal

pub returns-in_err-accepted-clause-value : goal.returns-in_err-accepted-clause-value
returns-in_err-accepted-clause-value c = rw (handed_on _ _ c.from_residual.ensures.1) (refused_place _ _ _ c.in_err-accepted.ensures c.args.i)

pub returns-clause-value : goal.returns-clause-value
returns-clause-value c =
    rw (c.ok_or.ensures.value, c.from.ensures) (asked c.args.archive.now c.in_ok-accepted.ensures.1 c.args.i c.span.result (rw c.in_ok-accepted.ensures.0 at c.span.ensures))
