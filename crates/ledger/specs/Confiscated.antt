-- CONFISCATED: what the storage provider took of a supplier's gas, by which the day's closing measures the forfeit.
use Rattle.std.specs.Prelude.{true, not, List, [], ◌∷◌}
use Rattle.ledger.specs.Structs.{Account, Change, Entry, Quantity, Today}
use Rattle.ledger.specs.Checks.{Check, verdict}
use Rattle.ledger.specs.State.{with_today}
use Rattle.ledger.specs.Ranges.{account_in_range}

-- R85: the amount waits for the closing. That one was told is a mark of its own, as 0 may be told.
unfoldable pub confiscated_today : Today → Quantity → Today
confiscated_today d amount =
    record { delivered = d.delivered; v1 = d.v1; v2 = d.v2; confiscated = true; confiscation = amount; notice = d.notice }

-- R85: the account after an entry's amount is on record; no gas moves.
unfoldable pub after_confiscation : Account → Entry → Account
after_confiscation a e = with_today a (confiscated_today a.today (record { 0 = e.w1 }))

-- R85: 24 if the account is not open, 26 if the day has its amount, 29, which never comes. The day, 23, was asked before.
unfoldable pub confiscation_checks : Account → Entry → List Check
confiscation_checks a e =
    (not a.opened, 24) ∷ (a.today.confiscated, 26) ∷ (not (account_in_range (after_confiscation a e)), 29) ∷ []

-- R85: the number, and the account to be stored where that is 0.
unfoldable pub confiscation : Account → Entry → Change
confiscation a e = record { number = verdict (confiscation_checks a e); account = after_confiscation a e }
