-- Each section goes behind the ones before it, and at the end the output holds them all.
use Rattle.std.proofs.Common.{arith, ap, length, refl, ◌∙◌}
use lib.ListN.{length-drop}
use Rattle.archive.proofs.Splits.{rest_whole}
use Rattle.archive.proofs.Stores.{flattened, none_filled, all_filled, part_fits, section_put}
use Rattle.archive.proofs.writing.put_sections.Goals as goal

pub loop-section-init : goal.loop-section-init
loop-section-init c = rw c.into_iter-section-iterator.ensures.into_iter_gives (none_filled _ _ _)

pub fill_section-requires : goal.fill_section-requires
fill_section-requires c =
    let size = ap length (c.as_flattened-bytes.ensures.value ∙ flattened c.in-Some.section.now) in
    let fits = part_fits _ _ _ _ _ _ c.loop-section.invariant c.requires _ _ c.in-Some.ensures.steps in
    rw (rest_whole c.loop-section.out c.loop-section.offset, length-drop) (omega (arith, size, fits))

pub loop-section-preserved : goal.loop-section-preserved
loop-section-preserved c =
    section_put _ _ _ _ _ _ c.loop-section.invariant c.requires _ _ c.in-Some.ensures.steps _ _ _ (c.as_flattened-bytes.ensures.value ∙ flattened _) c.fill_section.ensures refl

pub returns : goal.returns
returns c = all_filled _ _ _ _ _ _ c.loop-section.invariant c.in-None.ensures.steps.0
