-- R82: the two ends of a month's band for programs that explain figures, for every input.
use Rattle.std.specs.Prelude.{ℕ, Bool, cond, ◌&&◌, leb}
use Rattle.tariff.specs.Bounds.{most_bcq}
use Rattle.tariff.specs.Amounts.{percent}
use Rattle.tariff.specs.Months.{minimum, maximum}
use Rattle.nedrulov.specs.declared.Band.{Band}

-- R82: a month of the calendar, and a BCQ within its range (R16).
unfoldable pub limited : ℕ → ℕ → Bool
limited month bcq = leb 1 month && leb month 12 && leb bcq most_bcq

-- R82: the least and the largest bank of R36, in units; 0 and 0 where month or BCQ is outside its range.
unfoldable pub band_of : ℕ → ℕ → Band
band_of month bcq =
    cond (limited month bcq)
    (record {
      minimum = (percent (minimum (record { 0 = month })) (record { 0 = bcq })).0;
      maximum = (percent (maximum (record { 0 = month })) (record { 0 = bcq })).0;
    })
    (record { minimum = 0; maximum = 0 })
