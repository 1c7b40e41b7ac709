-- USAGE: what a supplier's customers consumed in the month, for the bill.
use Rattle.std.specs.Prelude.{true, not, List, [], ◌∷◌}
use Rattle.ledger.specs.Structs.{Account, Change, Entry, Mcf, Totals}
use Rattle.ledger.specs.Checks.{Check, verdict}
use Rattle.ledger.specs.State.{totals, with_month}
use Rattle.ledger.specs.Ranges.{account_in_range}

-- R41: consumption is told once for the whole month, so it is set and not added.
unfoldable pub with_usage : Totals → Mcf → Totals
with_usage m usage = totals m.net m.sales m.purchases m.cash_ins m.cash_outs usage

-- R41: told, which the month's closing asks for (R43).
unfoldable pub metered : Account → Mcf → Account
metered a usage = with_month a (record { totals = with_usage a.month.totals usage; measured = a.month.measured; metered = true })

-- R41: the account after an entry's consumption.
unfoldable pub after_usage : Account → Entry → Account
after_usage a e = metered a (record { 0 = e.w1 })

-- R41: 24 if the account is not open, 26 if the month's consumption was told, 29.
unfoldable pub usage_checks : Account → Entry → List Check
usage_checks a e =
    (not a.opened, 24) ∷ (a.month.metered, 26) ∷ (not (account_in_range (after_usage a e)), 29) ∷ []

-- R41: the number, and the account to be stored where that is 0.
unfoldable pub usage : Account → Entry → Change
usage a e = record { number = verdict (usage_checks a e); account = after_usage a e }
