-- The dates held are gone through, and `==` of dates is the test by which one is named.
use Rattle.std.proofs.Common.{◌&&◌, ◌∙◌, sym, rules, nat_eq}
use Rattle.std.proofs.lemmas.Iterator.{YieldsList-from_slice}
use Rattle.std.proofs.lemmas.Iterator.Search.{any_from_yields_List}
use Rattle.tariff.proofs.HeldDates.{named_any}
use Rattle.tariff.specs.Holidays.{held_dates}
use Rattle.tariff.proofs.holidays.Holidays.names.Goals as goal

pub returns : goal.returns
returns c =
    any_from_yields_List (λ h. nat_eq h.year c.args.d.year && (nat_eq h.month.0 c.args.d.month.0 && nat_eq h.day c.args.d.day)) _ _ c.any.result c.any.ensures.ran
    (YieldsList-from_slice (held_dates c.args.self.now) cc)
    (λ x b q k. search rules)
    ∙ sym (named_any (held_dates c.args.self.now) c.args.d)
