-- TRADE: the company sells gas to an account, or buys gas from it.
use Rattle.std.specs.Prelude.{Bool, true, false, cond, not}
use Rattle.ledger.specs.Structs.{Account, Change, Entry, Quantity, Side, Totals}
use Rattle.ledger.specs.declared.gas.Side.TheVariants as side
use Rattle.tariff.specs.Amounts.{together}
use Rattle.ledger.specs.Entries.{company_sells}
use Rattle.ledger.specs.State.{totals, with_totals}
use Rattle.ledger.specs.Gas.{giving, taking}

-- R38: what the company sells, the account takes.
abbrev pub sold : Side → Bool
sold side.Gives = false
sold side.Takes = true

-- R38: sales and purchases are summed apart, as the bill rounds each by itself (R54).
unfoldable pub with_trade : Bool → Totals → Quantity → Totals
with_trade sells m q =
    totals m.net (cond sells (together m.sales q) m.sales) (cond sells m.purchases (together m.purchases q)) m.cash_ins
    m.cash_outs m.usage

-- R38: the account whose month counts the trade.
unfoldable pub booked : Bool → Account → Quantity → Account
booked sells a q = with_totals a (with_trade sells a.month.totals q)

-- R38: the account takes what is sold to it and gives what is bought from it, within the month's band (R36).
unfoldable pub traded : Account → Entry → Change
traded a e =
    cond (company_sells e)
    (taking e.date.month (booked true a (record { 0 = e.w1 })) (record { 0 = e.w1 }))
    (giving e.date.month (booked false a (record { 0 = e.w1 })) (record { 0 = e.w1 }))

-- R38: 24 if the account is not open, then 28 and 29.
unfoldable pub trade : Account → Entry → Change
trade a e = record { number = cond (not a.opened) 24 (traded a e).number; account = (traded a e).account }
