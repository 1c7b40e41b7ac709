-- R31 to R34: what a day's delivery adds to the bank, and the two limits on a day.
use Rattle.std.specs.Prelude.{ℕ, ◌-◌, ◌*◌, pos, ◌-ℤ◌, ◌*ℤ◌, Bool, cond, not, ◌||◌, leb, ltb}
use Rattle.std.specs.Int.Signed.{quot_z}
use Rattle.tariff.specs.Structs.{Dth, Month, Quantity, Units}
use Rattle.tariff.specs.Amounts.{inward, outward, below, percent}
use Rattle.tariff.specs.Months.{same_month, november, december, mmbq}

-- R31: what retainage leaves of the gas brought less the back-cast. R4: toward zero, as quot_z rounds on both sides.
unfoldable pub retained : ℕ → Quantity → Quantity → Units
retained retainage delivered back_cast =
    record { 0 = quot_z ((pos delivered.0 -ℤ pos back_cast.0) *ℤ pos (10000 - retainage)) (pos 10000) }

-- R32: into how many days a month's MMBQ is divided.
unfoldable pub days_of_injection : Month → ℕ
days_of_injection m = cond (same_month m november || same_month m december) 30 25

-- R32: a day's injection above its part of the month's MMBQ; multiplied out, so that no quotient is formed.
unfoldable pub breaks_v1 : Month → Dth → Units → Bool
breaks_v1 m bcq amount = ltb (percent (mmbq m) bcq).0 (days_of_injection m * (inward amount).0)

-- R33: the fuller the bank before the delivery, the more of the MDDQ is open; a back-cast of the MDQ or more opens all of it.
-- 100 × MDQ is the MDQ in units.
unfoldable pub share_of : Units → Dth → Quantity → Dth → ℕ
share_of bank bcq back_cast mdq =
    cond (not (below bank (percent 30 bcq)) || leb (100 * mdq.0) back_cast.0) 100
    (cond (not (below bank (percent 20 bcq))) 80
    (cond (not (below bank (percent 10 bcq))) 65
    50))

-- R34: a day's withdrawal above that share of the MDDQ.
unfoldable pub breaks_v2 : ℕ → Dth → Units → Bool
breaks_v2 share mddq amount = ltb (percent share mddq).0 (outward amount).0
