-- R45 to R57: what a closing finds in an account, and what it does to it: violations, cash, carry and forfeit.
use Rattle.std.specs.Prelude.{ℕ, ◌+◌, ◌-◌, min, Bool, cond, not, ◌&&◌, ◌||◌}
use Rattle.tariff.specs.Structs.{Date, Dth, Month, Quantity, Units}
use Rattle.tariff.specs.Amounts.{nothing, inward, opposite, gap, above, below, less, percent}
use Rattle.tariff.specs.Months.{same_month, january, february, march, june, august, minimum, maximum, mmbq, withdrawal_maximum, withdrawal_minimum, winter}
use Rattle.tariff.specs.Dates.{is_on, last_of_month}

-- R45: a month's net injection above its MMBQ share of the BCQ.
unfoldable pub breaks_v3 : Month → Dth → Units → Bool
breaks_v3 m bcq net = above net (percent (mmbq m) bcq)

-- R46: what the month may withdraw, shortened by the carry; on ℕ a difference stops at 0.
unfoldable pub withdrawal_limit : Month → Dth → Quantity → Quantity
withdrawal_limit m bcq carry = record { 0 = (percent (withdrawal_maximum m) bcq).0 - carry.0 }

-- R46: a winter month's net withdrawal above that limit.
unfoldable pub breaks_v4 : Month → Quantity → Units → Bool
breaks_v4 m limit net = winter m && above (opposite net) limit

-- R47: on the last day of February or March, a net withdrawal short of the month's minimum; a month that added gas is short too.
unfoldable pub breaks_v5 : Date → Dth → Units → Bool
breaks_v5 d bcq net =
    (last_of_month d && (same_month d.month february || same_month d.month march))
    && below (opposite net) (percent (withdrawal_minimum d.month) bcq)

-- R48: a bank too full for the season, asked on two days of the year alone.
unfoldable pub breaks_v6 : Date → Dth → Units → Bool
breaks_v6 d bcq bank =
    (is_on june 30 d && above bank (percent 60 bcq)) || (is_on august 31 d && above bank (percent 85 bcq))

-- R49: an overdrawn bank; no excuse covers it.
unfoldable pub breaks_v7 : Units → Bool
breaks_v7 bank = below bank (record { 0 = 0 })

-- R50: a bank above 102 percent of the BCQ in an account without excuse.
unfoldable pub breaks_v8 : Bool → Dth → Units → Bool
breaks_v8 excused bcq bank = not excused && above bank (percent 102 bcq)

-- R51: one bit for each violation, V1 the lowest.
unfoldable pub mask_of : Bool → Bool → Bool → Bool → Bool → Bool → Bool → Bool → ℕ
mask_of v1 v2 v3 v4 v5 v6 v7 v8 =
    cond v1 1 0 + cond v2 2 0 + cond v3 4 0 + cond v4 8 0 + cond v5 16 0 + cond v6 32 0 + cond v7 64 0 + cond v8 128 0

-- R52: an overdrawn bank is filled to the month's minimum; one far too full is emptied to the maximum, which gives cash below zero.
-- No bank breaks both, so the order of the two does not matter.
unfoldable pub cash_of : Month → Bool → Dth → Units → Units
cash_of m excused bcq bank =
    cond (breaks_v7 bank) (gap bank (percent (minimum m) bcq))
    (cond (breaks_v8 excused bcq bank) (gap bank (percent (maximum m) bcq))
    nothing)

-- R53: an excuse is needed no longer once the bank is at most the month's maximum.
unfoldable pub ends_excuse : Month → Dth → Units → Bool
ends_excuse m bcq bank = not (above bank (percent (maximum m) bcq))

-- R55, R57: max(0, a − q), what lies above a limit.
unfoldable pub excess_over : Units → Quantity → Quantity
excess_over a q = inward (less a q)

-- R55: a winter month's withdrawal beyond its limit is held against the next month; March ends the winter and leaves nothing.
unfoldable pub carry_of : Month → Quantity → Units → Quantity
carry_of m limit net = record { 0 = cond (winter m && not (same_month m march)) (excess_over (opposite net) limit).0 0 }

-- R57: what lies above 65 percent of the BCQ as January closes, or above 25 percent as March closes: the excess, which may be lost without pay.
unfoldable pub forfeit_of : Month → Dth → Units → Quantity
forfeit_of m bcq bank =
    record {
      0 =
          cond (same_month m january) (excess_over bank (percent 65 bcq)).0
          (cond (same_month m march) (excess_over bank (percent 25 bcq)).0
          0);
    }

-- R86: under the first rule all of the excess is forfeited, under the new one no more of it than the storage provider confiscated.
unfoldable pub forfeit_under : Bool → Quantity → Quantity → Quantity
forfeit_under new confiscated excess = record { 0 = cond new (min confiscated.0 excess.0) excess.0 }
