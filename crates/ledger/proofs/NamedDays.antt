-- A date that none of 33 to 35 refuses is real, lies after today and leaves its month a business day: so the ledger that holds it is in range.
use Prim.Native.Nat.{◌<◌}
use mathlib.Core.Path.{◌≡◌, refl}
use mathlib.Core.Bool.{true, ◌&&◌}
use mathlib.Core.List.{[], ◌∷◌, ◌++◌}
use lib.Dec.{leb}
use borrow.Author.Tests.{leb-false, not-false}
use Rattle.tariff.specs.Dates.{before, real}
use Rattle.tariff.specs.Holidays.{holidays_in_range, leaves_one, named, stored_dates}
use Rattle.tariff.proofs.Bools.{and_left, and_right, or_left}
use Rattle.tariff.proofs.BusinessDays.{naming_ranged}
use Rattle.tariff.proofs.HeldDates.{held_stored}
use Rattle.ledger.specs.Checks.{verdict}
use Rattle.ledger.specs.Holiday.{holding, holiday_checks}
use Rattle.ledger.specs.Ranges.{in_range}
use Rattle.ledger.specs.State.{held_in, with_holidays}
use Rattle.ledger.specs.Structs.{Date, Ledger}
use Rattle.ledger.proofs.Bounded.{ranged_parts, ranged_whole}
use Rattle.ledger.proofs.Verdicts.{clear}

module _ (l : Ledger) (d : Date) where
  pub held_next : held_in (holding l d) ≡ held_in l ++ (d ∷ [])
  unfolding held_in holding with_holidays
  held_next = held_stored (held_in l ++ (d ∷ []))

  module _ (o : verdict (holiday_checks l d) ≡ 0) where
    real_later : real d && before l.date d ≡ true
    unfolding holiday_checks
    real_later = not-false (real d && before l.date d) (clear _ refl o 0)

    pub is_real_day : real d ≡ true
    is_real_day = and_left (real d) (before l.date d) real_later

    pub is_later_lem : before l.date d ≡ true
    is_later_lem = and_right (real d) (before l.date d) real_later

    pub has_room : l.holidays.count < 16
    unfolding holiday_checks
    has_room = leb-false 16 l.holidays.count (or_left (leb 16 l.holidays.count) (named (held_in l) d) (clear _ refl o 1))

    pub leaves_one_lem : leaves_one (held_in l ++ (d ∷ [])) d ≡ true
    unfolding holiday_checks
    leaves_one_lem = not-false (leaves_one (held_in l ++ (d ∷ [])) d) (clear _ refl o 2)

    days_ranged : in_range l ≡ true → holidays_in_range (stored_dates (held_in l ++ (d ∷ []))) ≡ true
    unfolding held_in
    days_ranged r = naming_ranged l.holidays d (ranged_parts l r).held has_room is_real_day leaves_one_lem

    pub holding_ranged : in_range l ≡ true → in_range (holding l d) ≡ true
    unfolding holding with_holidays
    holding_ranged r =
        let p = ranged_parts l r in
        ranged_whole (holding l d) (record { dated = p.dated; held = days_ranged r; accounts = p.accounts })
