-- One account at a closing: violations, cash and, as a month ends, the bill.
use Rattle.std.specs.Prelude.{ℕ, ◌+◌, pos, Bool, cond, not, ◌&&◌, ◌||◌, eqb, [], ◌∷◌}
use Rattle.ledger.specs.Structs.{Account, Capacity, Closed, Date, Entry, Mills, Prices, Quantity, Report, Step, Terms, Totals, Units}
use Rattle.tariff.specs.Amounts.{sum, less, inward, outward, together, added}
use Rattle.tariff.specs.Terms.{capacity_of}
use Rattle.tariff.specs.Steps.{settled_step, falls}
use Rattle.tariff.specs.Closing.{withdrawal_limit, breaks_v3, breaks_v4, breaks_v5, breaks_v6, breaks_v7, breaks_v8, cash_of, ends_excuse, carry_of, forfeit_of, forfeit_under, mask_of}
use Rattle.tariff.specs.Bill.{bill_of}
use Rattle.ledger.specs.Kinds as kinds
use Rattle.ledger.specs.Entries.{prices_of}
use Rattle.ledger.specs.State.{totals, no_month, no_today, with_bank, with_capacity, with_carry, with_days, with_excuse, with_measure, with_month, with_today, with_totals}
use Rattle.ledger.specs.Ranges.{account_in_range}
use Rattle.ledger.specs.Answers.{quiet, report}

-- ---- the day's part (R44, stages 1 to 5); d is the day that is closed

-- R46: how much the winter month may withdraw; what V4 tests is also what the next carry is measured by (R55).
unfoldable pub limit_of : Date → Account → Quantity
limit_of d a = withdrawal_limit d.month a.capacity.bcq a.carry

-- R51: the mask. V1 and V2 were judged by the delivery; V3 to V8 see the account as it is before any cash.
unfoldable pub violations_of : Date → Account → ℕ
violations_of d a =
    mask_of a.today.v1 a.today.v2
    (breaks_v3 d.month a.capacity.bcq a.month.totals.net)
    (breaks_v4 d.month (limit_of d a) a.month.totals.net)
    (breaks_v5 d a.capacity.bcq a.month.totals.net)
    (breaks_v6 d a.capacity.bcq a.bank)
    (breaks_v7 a.bank)
    (breaks_v8 a.excused a.capacity.bcq a.bank)

-- R52: what brings an overdrawn bank up to the month's minimum (above zero), or an overfull one down to its maximum (below zero).
unfoldable pub cash_at : Date → Account → Units
cash_at d a = cash_of d.month a.excused a.capacity.bcq a.bank

-- R52: cash-ins and cash-outs are summed apart, as they are billed at different prices (R54); net does not know of them.
unfoldable pub with_cash : Totals → Units → Totals
with_cash m cash = totals m.net m.sales m.purchases (together m.cash_ins (inward cash)) (together m.cash_outs (outward cash)) m.usage

-- R53: the excuse lasts until a closing finds that the bank, after cash, fits the month's maximum.
unfoldable pub excused_still : Date → Account → Units → Bool
excused_still d a bank = a.excused && not (ends_excuse d.month a.capacity.bcq bank)

-- R53: the account once mask and cash are known. A mask other than 0 is one violation day, however much was broken (R44).
unfoldable pub day_end : Date → ℕ → Units → Account → Account
day_end d mask cash a =
    with_today
    (with_days
    (with_excuse (with_totals (with_bank a (sum a.bank cash)) (with_cash a.month.totals cash)) (excused_still d a (sum a.bank cash)))
    (a.violation_days + cond (eqb mask 0) 0 1))
    no_today

-- R44: the account after the day's part.
unfoldable pub after_day : Date → Account → Account
after_day d a = day_end d (violations_of d a) (cash_at d a) a

-- ---- the month's part (R44, stages 6 to 11), of the account that the day's part left

-- R54: the bill, by the MDDQ that was in force during the month.
unfoldable pub bill_at : Terms → Prices → Account → Mills
bill_at t p a = bill_of t p a.capacity.mddq a.month.totals

-- R56: MDDQ and BCQ of the step that was pending, under the terms in force.
unfoldable pub next_capacity : Terms → Account → Capacity
next_capacity t a = capacity_of t (settled_step a.step).k

-- R57: the excess goes by the BCQ of the new step, so it may grow where the step falls, and by the bank after the day's cash.
unfoldable pub excess_at : Date → Terms → Account → Quantity
excess_at d t a = forfeit_of d.month (next_capacity t a).bcq a.bank

-- R86: what is forfeited of it, by what the account had on record before the day's part cleared it.
unfoldable pub forfeit_at : Bool → Date → Terms → Account → Quantity
forfeit_at new d t a = forfeit_under new a.today.confiscation (excess_at d t (after_day d a))

-- R44: the account in its new month: carry by the limit that V4 had (R55), new step and capacity and perhaps an excuse (R56), the forfeit gone
-- from the bank (R57), the bill added to what is owed (R54).
unfoldable pub month_end : Date → Quantity → Step → Capacity → Quantity → Mills → Account → Account
month_end d limit step capacity forfeit bill a =
    with_excuse
    (with_carry
    (with_month (with_capacity (with_measure (with_bank a (less a.bank forfeit)) a.mdq step) capacity) no_month)
    (carry_of d.month limit a.month.totals.net)
    (added a.owed bill))
    (a.excused || falls a.step)

-- R44: the account after the month's part.
unfoldable pub after_month : Date → Terms → Prices → Quantity → Account → Account
after_month d t p forfeit a = month_end d (limit_of d a) (settled_step a.step) (next_capacity t a) forfeit (bill_at t p a) a

-- ---- an account at a closing: after the day's part, at the end, and its report

-- R59: CLOSE DAY forfeits and bills nothing.
unfoldable pub day_closing : Date → Account → Closed
day_closing d a =
    record { day = after_day d a; account = after_day d a; report = report (violations_of d a) (cash_at d a) (record { 0 = 0 }) (record { 0 = pos 0 }) }

-- R59: CLOSE MONTH reports the day's mask and cash, then forfeit and bill.
unfoldable pub month_closing : Bool → Date → Terms → Prices → Account → Closed
month_closing new d t p a =
    record {
      day = after_day d a;
      account = after_month d t p (forfeit_at new d t a) (after_day d a);
      report = report (violations_of d a) (cash_at d a) (forfeit_at new d t a) (bill_at t p (after_day d a));
    }

-- R20: an account that no closing touches stays exactly as it is, and zeros are reported of it.
unfoldable pub left_alone : Account → Closed
left_alone a = record { day = a; account = a; report = quiet }

-- R44: what the entry's kind of closing makes of one account; of one that is not open, nothing. Old and new ledgers differ in the forfeit alone.
unfoldable pub closing_of : Bool → Terms → Entry → Account → Closed
closing_of new t e a =
    cond a.opened
    (kinds.lookup e.kind
    ((kinds.CLOSE_DAY, day_closing e.date a)
    ∷ (kinds.CLOSE_MONTH, month_closing new e.date t (prices_of e) a)
    ∷ [])
    (left_alone a))
    (left_alone a)

-- R59: of that the account goes to the ledger, the report to the answer.
unfoldable pub after_closing : Bool → Terms → Entry → Account → Account
after_closing new t e a = (closing_of new t e a).account

unfoldable pub report_of : Bool → Terms → Entry → Account → Report
report_of new t e a = (closing_of new t e a).report

-- ---- what is asked of an account

-- R43: an open account has its delivery, its measurement if the day reads the meters, and its consumption if it ends the month.
unfoldable pub ready : Bool → Bool → Account → Bool
ready ends reads a = not a.opened || (a.today.delivered && (not reads || a.month.measured) && (not ends || a.month.metered))

-- R58: also the account after the day's part is asked, as the month's end would clear a total that had grown too large.
unfoldable pub stays_in_range : Bool → Terms → Entry → Account → Bool
stays_in_range new t e a = account_in_range (closing_of new t e a).day && account_in_range (closing_of new t e a).account
