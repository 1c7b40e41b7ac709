-- A pair is wrong and settles it, or moves the end.
use Rattle.archive.proofs.Headers.{measured}
use Rattle.archive.proofs.Pairs.{right_at_first, all_right, pair_wrong, pair_right}
use Rattle.archive.proofs.reading.right_directory.Goals as goal

pub loop-pair-init : goal.loop-pair-init
loop-pair-init c = let m = measured c.args.bytes.now c.requires in right_at_first _ _ _ c.section_count.ensures.value m.few c.pairs-pair-items.ensures.count c.pairs-pair-items.ensures.pairs

pub returns-then-not-span-end : goal.returns-then-not-span-end
returns-then-not-span-end c =
    pair_wrong _ _ _ _ c.loop-pair.invariant _ c.loop-pair-test.true _ _ c.from-span.ensures.0 c.from-span.ensures.1 c.if-not-span-end.true

pub loop-pair-preserved : goal.loop-pair-preserved
loop-pair-preserved c =
    pair_right _ _ _ _ c.loop-pair.invariant _ c.loop-pair-test.true _ _ c.from-span.ensures.0 c.from-span.ensures.1 c.if-not-span-end.false c.from-span.ensures.3

pub returns : goal.returns
returns c = all_right _ _ _ _ c.loop-pair.invariant c.loop-pair-test.false
