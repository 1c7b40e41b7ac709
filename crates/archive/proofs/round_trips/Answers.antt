-- Written and read back, a list is itself; read and written again, an archive is itself: both ways are shown of every list of bytes.
use Rattle.archive.proofs.round_trips.Goals as goal
use Rattle.archive.proofs.Trips.{reads_back, writes_back}

pub returns-clause-reads_back : goal.returns-clause-reads_back
returns-clause-reads_back c = reads_back

pub returns-clause-writes_back : goal.returns-clause-writes_back
returns-clause-writes_back c = writes_back
