-- The bytes still to come are the directory of the sections that are left: each turn puts the first one's pair and passes it.
use Rattle.std.proofs.Common.{ap, length, ◌∙◌}
use Rattle.archive.proofs.Stores.{flattened, no_pairs, all_pairs, first_fits, second_fits, pair_put}
use Rattle.archive.proofs.writing.put_directory.Goals as goal

pub loop-section-init : goal.loop-section-init
loop-section-init c = rw c.into_iter-section-iterator.ensures.into_iter_gives (no_pairs _ _ _ c.requires.0)

pub put_word-requires : goal.put_word-requires
put_word-requires c = first_fits _ _ _ _ _ _ _ c.loop-section.invariant c.requires.0 c.requires.2 c.requires.1 _ _ c.in-Some.ensures.steps

pub put_word-requires-in-loop-section : goal.put_word-requires-in-loop-section
put_word-requires-in-loop-section c =
    second_fits _ _ _ _ _ _ _ c.loop-section.invariant c.requires.0 c.requires.2 c.requires.1 _ _ c.in-Some.ensures.steps _ c.put_word.ensures _ (ap length (c.as_flattened-size.ensures.value ∙ flattened _))

pub loop-section-preserved : goal.loop-section-preserved
loop-section-preserved c =
    pair_put _ _ _ _ _ _ _ c.loop-section.invariant c.requires.0 c.requires.2 c.requires.1 _ _ c.in-Some.ensures.steps _ c.put_word.ensures _ (ap length (c.as_flattened-size.ensures.value ∙ flattened _)) _ c.put_word-in-loop-section.ensures

pub returns : goal.returns
returns c = all_pairs _ _ _ _ _ _ _ c.loop-section.invariant c.in-None.ensures.steps.0
