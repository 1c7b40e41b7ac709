-- R28, R29: who is served, and with how much in bank.
use Rattle.std.specs.Prelude.{Bool, not, ◌&&◌, ◌||◌, ltb}
use Rattle.tariff.specs.Structs.{Dth, Quantity}
use Rattle.tariff.specs.Amounts.{percent}

-- R28: small loads and those that do not follow the weather stay on FBS; from 1,000 Dth a supplier may choose, from 6,000 it is served.
unfoldable pub stays_on_fbs : Bool → Bool → Dth → Bool
stays_on_fbs process_only wishes mdq = process_only || ltb mdq.0 1000 || (ltb mdq.0 6000 && not wishes)

-- R29: an opening bank above 25 percent of the BCQ that the account is about to get.
unfoldable pub opening_too_high : Quantity → Dth → Bool
opening_too_high opening bcq = ltb (percent 25 bcq).0 opening.0
