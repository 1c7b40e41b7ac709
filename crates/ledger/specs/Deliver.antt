-- DELIVER: what was brought beyond the need goes into the bank, what was lacking comes out of it.
use Rattle.std.specs.Prelude.{ℕ, true, not, List, [], ◌∷◌}
use Rattle.ledger.specs.Structs.{Account, Change, Entry, Month, Quantity, Terms, Today, Totals, Units}
use Rattle.tariff.specs.Amounts.{sum}
use Rattle.tariff.specs.Delivery.{retained, breaks_v1, share_of, breaks_v2}
use Rattle.ledger.specs.Checks.{Check, verdict}
use Rattle.ledger.specs.State.{totals, with_bank, with_totals, with_today}
use Rattle.ledger.specs.Ranges.{account_in_range}

-- R31: the amount of an entry under a retainage; the sums over a history ask for it too (R62).
unfoldable pub amount_under : ℕ → Entry → Units
amount_under retainage e = retained retainage (record { 0 = e.w1 }) (record { 0 = e.w2 })

-- R35: net is moved by deliveries alone, since V3, V4 and V5 are about them (R45 to R47).
unfoldable pub with_net : Totals → Units → Totals
with_net m net = totals net m.sales m.purchases m.cash_ins m.cash_outs m.usage

-- R35: V1 and V2 wait here for the closing. The share goes by the bank as it was before the delivery (R33).
unfoldable pub delivered_today : Month → Account → Units → Quantity → Today
delivered_today m a amount back_cast =
    record {
      delivered = true;
      v1 = breaks_v1 m a.capacity.bcq amount;
      v2 = breaks_v2 (share_of a.bank a.capacity.bcq back_cast a.mdq) a.capacity.mddq amount;
      confiscated = a.today.confiscated;
      confiscation = a.today.confiscation;
      notice = a.today.notice;
    }

-- R35: bank and net move by the same amount.
unfoldable pub delivered : Month → Account → Units → Quantity → Account
delivered m a amount back_cast =
    with_today (with_totals (with_bank a (sum a.bank amount)) (with_net a.month.totals (sum a.month.totals.net amount)))
    (delivered_today m a amount back_cast)

-- R35: the account after an entry's delivery.
unfoldable pub after_delivery : ℕ → Account → Entry → Account
after_delivery retainage a e = delivered e.date.month a (amount_under retainage e) (record { 0 = e.w2 })

-- R35: 24 if the account is not open, 26 if the day has its delivery, 29. No limit of a bank refuses gas that has come.
unfoldable pub deliver_checks : ℕ → Account → Entry → List Check
deliver_checks retainage a e =
    (not a.opened, 24) ∷ (a.today.delivered, 26) ∷ (not (account_in_range (after_delivery retainage a e)), 29) ∷ []

-- R35: the number, and the account to be stored where that is 0.
unfoldable pub delivery : Terms → Account → Entry → Change
delivery t a e = record { number = verdict (deliver_checks t.retainage a e); account = after_delivery t.retainage a e }
