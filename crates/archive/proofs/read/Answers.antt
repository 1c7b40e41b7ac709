-- What follows the directory of an accepted archive is its list; a refused one has none.
use Rattle.std.proofs.Common.{sym, ap, ◌∙◌}
use Rattle.archive.specs.Entries.{entries_of}
use Rattle.archive.specs.Reading.{list_of}
use Rattle.archive.proofs.Places.{refused_list, accepted_list}
use Rattle.archive.proofs.read.Goals as goal

pub returns-in-Ok : goal.returns-in-Ok
returns-in-Ok c =
    (c.from.ensures ∙ sym c.in-Ok.ensures.1, c.entries.ensures ∙ ap (λ a. entries_of (list_of a)) c.in-Ok.ensures.0 ∙ accepted_list c.args.archive.now c.in-Ok.ensures.1)

pub returns-in-Err : goal.returns-in-Err
returns-in-Err c = (c.from-in-Err.ensures ∙ sym c.in-Err.ensures, refused_list _ _ _ c.in-Err.ensures)
