-- Fewer than sixteen are held, and all of them are kept, so one more finds a place. The lemma named in `using` is not enough: search stops at its limit.
use Rattle.std.proofs.Common.{rules}
use Rattle.tariff.proofs.HeldDates.{room_all}
use Rattle.tariff.proofs.holidays.Holidays.naming.Goals as goal

pub push-requires : goal.push-requires
push-requires c = room_all c.default.result _ _ (search rules) c.kept_from-next.ensures c.requires
