-- Where at most sixteen are counted, each date held is tried.
use Rattle.std.proofs.Common.{◌&&◌, ◌∙◌, rules}
use Rattle.std.proofs.lemmas.Iterator.{YieldsList-from_slice}
use Rattle.std.proofs.lemmas.Iterator.Search.{all_from_yields_List}
use Rattle.tariff.proofs.HeldDates.{ranged_is}
use Rattle.tariff.specs.Dates.{real}
use Rattle.tariff.specs.Holidays.{held_dates, leaves_one}
use Rattle.tariff.proofs.holidays.Holidays.in_range.Goals as goal

pub returns-then-self-le16 : goal.returns-then-self-le16
returns-then-self-le16 c =
    all_from_yields_List (λ d. real d && leaves_one (held_dates c.args.self.now) d) _ _ c.all.result c.all.ensures.ran
    (YieldsList-from_slice (held_dates c.args.self.now) cc)
    (λ x b q k. search rules)
    ∙ ranged_is c.args.self.now c.if-self-le16.true
