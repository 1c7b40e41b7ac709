-- The calendar's two laws, proved of the definitions alone.
use Rattle.tariff.proofs.NextDays.{right_days}
use Rattle.tariff.proofs.right_days.Goals as goal

pub returns : goal.returns
returns c = right_days
