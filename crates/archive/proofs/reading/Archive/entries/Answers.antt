-- What follows the directory, which lies in the file, is the list.
use Rattle.std.proofs.Common.{◌∙◌, ap}
use Rattle.archive.specs.Entries.{entries_of}
use Rattle.archive.specs.Layout.{body_at}
use Rattle.archive.specs.Reading.{list_of}
use Rattle.archive.proofs.Splits.{rest_whole}
use Rattle.archive.proofs.reading.Archive.entries.Goals as goal

pub returns : goal.returns
unfolding list_of body_at
returns c = c.entries_of.ensures ∙ ap entries_of (rest_whole c.args.self.bytes.now _ ∙ rw c.section_count.ensures.value)
