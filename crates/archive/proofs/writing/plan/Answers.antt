-- The tests stand in the order of the numbers 1 to 12.
-- `listed` is asked in each goal, as it rests on answers of calls before it (see put_archive).
use Rattle.std.proofs.Common.{◌∙◌}
use Rattle.archive.specs.Faults.{fault_number}
use Rattle.archive.proofs.Answered.{handed_on}
use Rattle.archive.proofs.Plans.{in_pieces, refused, listed, counted, large, small, long, tight, whole}
use Rattle.archive.proofs.writing.plan.Goals as goal

pub returns-then-n-ne0-clause-answer : goal.returns-then-n-ne0-clause-answer
unfolding fault_number
returns-then-n-ne0-clause-answer c = rw c.from.ensures (in_pieces c.args.is_new c.args.list.now c.args.room c.if-n-ne0.true)

pub returns-in_err-first_fault-clause-answer : goal.returns-in_err-first_fault-clause-answer
returns-in_err-first_fault-clause-answer c =
    let e = listed c.args.is_new c.args.list.now _ c.entries_of-entries.ensures ∙ c.in_err-first_fault.ensures in
    rw (handed_on _ _ c.from_residual.ensures.1) (refused c.args.is_new c.args.list.now c.args.room c.if-n-ne0.false _ _ e)

pub returns-then-count-n-clause-answer : goal.returns-then-count-n-clause-answer
unfolding fault_number
returns-then-count-n-clause-answer c =
    let e = listed c.args.is_new c.args.list.now _ c.entries_of-entries.ensures ∙ c.in_ok-first_fault.ensures in
    rw c.from-then-count-n.ensures (large c.args.is_new c.args.list.now c.args.room c.if-n-ne0.false e _ (counted _ _ _ c.entries_of-entries.ensures c.count_sections-count.ensures) c.if-count-n.true)

pub returns-then-length-gt-MOST_BYTES-clause-answer : goal.returns-then-length-gt-MOST_BYTES-clause-answer
unfolding fault_number
returns-then-length-gt-MOST_BYTES-clause-answer c =
    let e = listed c.args.is_new c.args.list.now _ c.entries_of-entries.ensures ∙ c.in_ok-first_fault.ensures in
    let few = small _ _ c.if-count-n.false in
    rw c.from-then-length-gt-MOST_BYTES.ensures
    (long c.args.is_new c.args.list.now c.args.room c.if-n-ne0.false e _ (counted _ _ _ c.entries_of-entries.ensures c.count_sections-count.ensures) few c.if-length-gt-MOST_BYTES.true)

pub returns-then-room-length-clause-answer : goal.returns-then-room-length-clause-answer
unfolding fault_number
returns-then-room-length-clause-answer c =
    let e = listed c.args.is_new c.args.list.now _ c.entries_of-entries.ensures ∙ c.in_ok-first_fault.ensures in
    let few = small _ _ c.if-count-n.false in
    rw c.from-then-room-length.ensures
    (tight c.args.is_new c.args.list.now c.args.room c.if-n-ne0.false e _ (counted _ _ _ c.entries_of-entries.ensures c.count_sections-count.ensures) few c.if-length-gt-MOST_BYTES.false c.if-room-length.true)

pub returns-clause-answer : goal.returns-clause-answer
returns-clause-answer c =
    let e = listed c.args.is_new c.args.list.now _ c.entries_of-entries.ensures ∙ c.in_ok-first_fault.ensures in
    let few = small _ _ c.if-count-n.false in
    whole c.args.is_new c.args.list.now c.args.room c.if-n-ne0.false e _ (counted _ _ _ c.entries_of-entries.ensures c.count_sections-count.ensures) few c.if-length-gt-MOST_BYTES.false c.if-room-length.false
