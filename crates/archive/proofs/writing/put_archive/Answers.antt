-- A planned archive has room in the output: header, directory and list are put one after the other, and none changes the output's length.
-- What the plan promises rests on answers of calls, so each goal asks it again: as one lemma over the place after them it was tried, and search
-- did not find that place.
use Rattle.std.proofs.Common.{arith, drop, ◌++◌, ◌∙◌, sym, refl}
use lib.Seq.{length-take-le}
use Rattle.archive.proofs.Plans.{planned, head_length, head_kept, pairs_kept, archive_put}
use Rattle.archive.proofs.writing.put_archive.Goals as goal

pub slice_bounds-copy_from_slice-end-2 : goal.slice_bounds-copy_from_slice-end-2
slice_bounds-copy_from_slice-end-2 c =
    let p = planned _ _ _ c.requires _ c.entries_of-entries.ensures _ c.count_sections-count.ensures in sym (length-take-le 8 c.args.out.now (omega (arith, p)))

pub copy_from_slice-requires : goal.copy_from_slice-requires
copy_from_slice-requires c =
    let p = planned _ _ _ c.requires _ c.entries_of-entries.ensures _ c.count_sections-count.ensures in
    length-take-le 8 c.args.out.now (omega (arith, p)) ∙ sym (head_length c.args.is_new c.args.list.now c.args.out.now _ _ p c.header.result (c.header.result ++ drop 8 c.args.out.now) c.header.ensures refl)

pub put_directory-requires : goal.put_directory-requires
put_directory-requires c =
    let p = planned _ _ _ c.requires _ c.entries_of-entries.ensures _ c.count_sections-count.ensures in
    let kept = head_kept c.args.is_new c.args.list.now c.args.out.now _ _ p c.copy_from_slice.new.self (c.copy_from_slice.new.self ++ drop 8 c.args.out.now) (c.copy_from_slice.ensures.after ∙ c.header.ensures) refl in
    (c.count_sections-count.ensures, p.short, omega (arith, p, kept))

pub put_sections-requires : goal.put_sections-requires
put_sections-requires c =
    let p = planned _ _ _ c.requires _ c.entries_of-entries.ensures _ c.count_sections-count.ensures in
    let kept = pairs_kept c.args.is_new c.args.list.now c.args.out.now _ _ p c.copy_from_slice.new.self (c.copy_from_slice.new.self ++ drop 8 c.args.out.now) (c.copy_from_slice.ensures.after ∙ c.header.ensures) refl c.count_sections-count.ensures c.put_directory.new.out c.put_directory.ensures in
    omega (arith, p, kept)

pub returns : goal.returns
returns c =
    let p = planned _ _ _ c.requires _ c.entries_of-entries.ensures _ c.count_sections-count.ensures in
    archive_put c.args.is_new c.args.list.now c.args.out.now _ _ p c.copy_from_slice.new.self (c.copy_from_slice.new.self ++ drop 8 c.args.out.now) (c.copy_from_slice.ensures.after ∙ c.header.ensures) refl c.count_sections-count.ensures c.put_directory.new.out c.put_directory.ensures c.entries_of-entries.ensures _ c.put_sections.ensures
