-- The replay of an archive is that of the entries in it, beside what was found of it.
use Rattle.archive.proofs.Replays.{replays}
use Rattle.archive.proofs.replay.Goals as goal

pub returns : goal.returns
returns c = replays _ _ _ _ _ c.is_new.ensures c.read.ensures.0 c.read.ensures.1 c.post_all.ensures.number.0 c.post_all.ensures.number.1 c.post_all.ensures.accepted c.post_all.ensures.refused c.post_all.ensures.ledger
