-- Giving and taking gas: one account's side of it, whoever is on the other.
use Rattle.std.specs.Prelude.{not, List, [], ◌∷◌}
use Rattle.ledger.specs.Structs.{Account, Change, Month, Quantity, Side}
use Rattle.ledger.specs.declared.gas.Side.TheVariants as side
use Rattle.tariff.specs.Amounts.{more, less}
use Rattle.tariff.specs.Limits.{above_maximum, below_minimum}
use Rattle.ledger.specs.Checks.{Check, verdict}
use Rattle.ledger.specs.State.{with_bank}
use Rattle.ledger.specs.Ranges.{account_in_range}

-- R37 and R38: only the bank moves.
unfoldable pub after_giving : Account → Quantity → Account
after_giving a q = with_bank a (less a.bank q)

unfoldable pub after_taking : Account → Quantity → Account
after_taking a q = with_bank a (more a.bank q)

-- R36: 28 if the giver would end below the month's minimum; then 29.
unfoldable pub giving_checks : Month → Account → Quantity → List Check
giving_checks m a q = (below_minimum m a.capacity.bcq (after_giving a q).bank, 28) ∷ (not (account_in_range (after_giving a q)), 29) ∷ []

-- R36: 28 if the taker would end above the month's maximum; then 29. A bank below the minimum may still take.
unfoldable pub taking_checks : Month → Account → Quantity → List Check
taking_checks m a q = (above_maximum m a.capacity.bcq (after_taking a q).bank, 28) ∷ (not (account_in_range (after_taking a q)), 29) ∷ []

-- R37 and R38: the number, and the account to be stored where that is 0.
unfoldable pub giving : Month → Account → Quantity → Change
giving m a q = record { number = verdict (giving_checks m a q); account = after_giving a q }

unfoldable pub taking : Month → Account → Quantity → Change
taking m a q = record { number = verdict (taking_checks m a q); account = after_taking a q }

-- R37 and R38: one of them, by the account's side.
abbrev pub moving : Side → Month → Account → Quantity → Change
moving side.Gives m a q = giving m a q
moving side.Takes m a q = taking m a q
