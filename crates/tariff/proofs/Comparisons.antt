-- What a derived comparison gives is what the definition says. It computes, but no proof above opens a definition of the tariff's (tests/layers), so it
-- is said here; of dates it is said in Calendar.
use mathlib.Core.Path.{◌≡◌, refl}
use lib.Dec.{eqb}
use lib.Signed.{lt_z}
use Rattle.tariff.specs.Amounts.{exceeds}
use Rattle.tariff.specs.Months.{same_month}
use Rattle.tariff.specs.Structs.{Month, Units}

pub exceeds_by_number : (a b : Units) → exceeds a b ≡ lt_z b.0 a.0
unfolding exceeds
exceeds_by_number a b = refl

-- the derived == of months
pub same_month_derived : (a b : Month) → eqb a.0 b.0 ≡ same_month a b
unfolding same_month
same_month_derived a b = refl
