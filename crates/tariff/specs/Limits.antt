-- R36: the month's band, which a bank may not leave by gas that is moved.
use Rattle.std.specs.Prelude.{Bool}
use Rattle.tariff.specs.Structs.{Dth, Month, Units}
use Rattle.tariff.specs.Amounts.{above, below, percent}
use Rattle.tariff.specs.Months.{minimum, maximum}

-- R36: asked of where a receiving bank ends, since a giving one may stand above.
unfoldable pub above_maximum : Month → Dth → Units → Bool
above_maximum m bcq bank = above bank (percent (maximum m) bcq)

-- R36: asked of where a giving bank ends, since a receiving one may stand below.
unfoldable pub below_minimum : Month → Dth → Units → Bool
below_minimum m bcq bank = below bank (percent (minimum m) bcq)
