-- The days asked are those of the month from the 25th on, none above 31, so each is a day of the calendar; the first that works is the one.
use Rattle.std.proofs.Common.{rules, ◌≡◌, true, false}
use Rattle.std.proofs.lemmas.Iterator.{first_from_Range, serves_from_Range}
use Rattle.tariff.proofs.BusinessDays.{found_first}
use Rattle.tariff.specs.Holidays.{business_day, date_of, held_dates}
use Rattle.tariff.proofs.holidays.Holidays.measured_on.Goals as goal

pub find-requires-clause-callable : goal.find-requires-clause-callable
find-requires-clause-callable c = serves_from_Range (λ x q h. search rules) (λ x l h. search rules)

pub returns-clause-day : goal.returns-clause-day
returns-clause-day c =
    found_first (held_dates c.args.self.now) c.args.month.year c.args.month.month _ _ c.find.result (search rules) (search rules)
    (first_from_Range _ _ _ _
    (λ k. business_day (held_dates c.args.self.now) (date_of c.args.month.year c.args.month.month k) ≡ true)
    (λ k. business_day (held_dates c.args.self.now) (date_of c.args.month.year c.args.month.month k) ≡ false)
    c.find.ensures.ran (λ x q h. search rules) (λ x q h. search rules))
