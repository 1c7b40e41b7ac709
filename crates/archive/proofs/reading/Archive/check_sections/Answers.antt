-- Each section in turn has the first refusal, or passes too; that a section ends with the file says that it is the last.
use Rattle.std.proofs.Common.{arith, ◌∙◌}
use Rattle.archive.proofs.Answered.{handed_on}
use Rattle.archive.proofs.Headers.{measured}
use Rattle.archive.proofs.Numbering.{checked_at_first, checked_entries, all_passed, section_within, entries_fit, section_refused, section_passed}
use Rattle.archive.proofs.reading.Archive.check_sections.Goals as goal

pub loop-pair-init : goal.loop-pair-init
loop-pair-init c = checked_at_first _ _ _ c.pairs-pair-items.ensures.pairs c.args.self.directed

pub slice_bounds-entries_of-end : goal.slice_bounds-entries_of-end
slice_bounds-entries_of-end c = section_within _ _ _ _ _ c.loop-pair.invariant _ c.loop-pair-test.true _ _ c.from-span.ensures.0 c.from-span.ensures.1

pub first_fault-requires : goal.first_fault-requires
first_fault-requires c =
    let f = entries_fit _ _ _ _ _ c.loop-pair.invariant _ c.loop-pair-test.true _ _ c.from-span.ensures.0 c.from-span.ensures.1 _ c.entries_of-section.ensures in
    omega (arith, measured c.args.self.bytes.now c.args.self.headed)

pub overflow_add-first : goal.overflow_add-first
overflow_add-first c =
    let f = entries_fit _ _ _ _ _ c.loop-pair.invariant _ c.loop-pair-test.true _ _ c.from-span.ensures.0 c.from-span.ensures.1 _ c.entries_of-section.ensures in
    omega (arith, measured c.args.self.bytes.now c.args.self.headed)

pub returns-in_err-first_fault : goal.returns-in_err-first_fault
returns-in_err-first_fault c =
    rw (handed_on _ _ c.from_residual.ensures.1, checked_entries c.args.self.bytes.now c.opens_as-is_new.result c.args.self.headed c.args.self.directed c.opens_as-is_new.ensures)
    (section_refused _ _ _ _ _ c.loop-pair.invariant _ c.loop-pair-test.true _ _ c.from-span.ensures.0 c.from-span.ensures.1 _ c.entries_of-section.ensures _ _ c.in_err-first_fault.ensures)

pub loop-pair-preserved : goal.loop-pair-preserved
loop-pair-preserved c =
    section_passed _ _ _ _ _ c.loop-pair.invariant _ c.loop-pair-test.true _ _ c.from-span.ensures.0 c.from-span.ensures.1 _ c.entries_of-section.ensures c.in_ok-first_fault.ensures

pub returns : goal.returns
returns c =
    checked_entries c.args.self.bytes.now c.opens_as-is_new.result c.args.self.headed c.args.self.directed c.opens_as-is_new.ensures
    ∙ all_passed _ _ _ _ _ c.loop-pair.invariant c.loop-pair-test.false
