-- MEASURE: the month's new MDQ, and whether the step is to move.
use Rattle.std.specs.Prelude.{true, not, List, [], ◌∷◌}
use Rattle.ledger.specs.Structs.{Account, Change, Dth, Entry}
use Rattle.tariff.specs.Steps.{measured}
use Rattle.ledger.specs.Checks.{Check, verdict}
use Rattle.ledger.specs.State.{with_measure, with_month}
use Rattle.ledger.specs.Ranges.{account_in_range}

-- R40: the MDQ holds from now on, for V2's share; the step only waits (R39).
unfoldable pub remeasured : Account → Dth → Account
remeasured a mdq =
    with_month (with_measure a mdq (measured a.step mdq)) (record { totals = a.month.totals; measured = true; metered = a.month.metered })

-- R40: the account after an entry's measurement.
unfoldable pub after_measure : Account → Entry → Account
after_measure a e = remeasured a (record { 0 = e.w1 })

-- R40: 24 if the account is not open, 26 if it was measured this month, 29. The day, 23, was asked before.
unfoldable pub measure_checks : Account → Entry → List Check
measure_checks a e =
    (not a.opened, 24)
    ∷ (a.month.measured, 26)
    ∷ (not (account_in_range (after_measure a e)), 29)
    ∷ []

-- R40: the number, and the account to be stored where that is 0.
unfoldable pub measurement : Account → Entry → Change
measurement a e = record { number = verdict (measure_checks a e); account = after_measure a e }
