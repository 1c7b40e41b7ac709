-- Each posting adds to one of the two counts.
use Rattle.std.proofs.Common.{refl, ◌∙◌}
use Rattle.archive.proofs.Replays.{none_posted, all_posted, one_posted, one_byte}
use Rattle.archive.proofs.replaying.post_all.Goals as goal

pub loop-entry-init : goal.loop-entry-init
loop-entry-init c = none_posted _ _ _ c.fresh-ledger.ensures

pub loop-entry-preserved : goal.loop-entry-preserved
loop-entry-preserved c =
    one_posted _ _ _ _ _ _ c.loop-entry.invariant _ c.loop-entry-test.true c.post_in-answer.result c.post_in-answer.new.ledger c.post_in-answer.ensures.answer c.post_in-answer.ensures.stored c.from-one.result
    (c.from-one.ensures ∙ one_byte _ _ c.accepted.ensures)

pub returns : goal.returns
returns c =
    let e = all_posted _ _ _ _ _ _ c.loop-entry.invariant c.loop-entry-test.false in record { number = (refl, refl); accepted = e.0; refused = e.1; ledger = e.2 }
