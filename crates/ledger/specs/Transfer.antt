-- TRANSFER: gas of one supplier becomes that of another.
use Rattle.std.specs.Prelude.{◌≡◌, not, ◌&&◌, ◌||◌, eqb, List, [], ◌∷◌, Result, MatchResult}
use Rattle.ledger.specs.Structs.{Account, Change, Entry, Ledger, Month, Posted, Quantity}
use Rattle.ledger.specs.declared.refusals.Refusal.{Refusal}
use Rattle.ledger.specs.Checks.{Check, verdict}
use Rattle.ledger.specs.State.{account_at, with_account}
use Rattle.ledger.specs.Gas.{giving, taking}
use Rattle.ledger.specs.Refusals.{number}
use Rattle.ledger.specs.Answers.{settle}

-- R37: A gives w1, and B takes it.
unfoldable pub giver : Ledger → Entry → Change
giver l e = giving e.date.month (account_at l e.a) (record { 0 = e.w1 })

unfoldable pub receiver : Ledger → Entry → Change
receiver l e = taking e.date.month (account_at l e.b) (record { 0 = e.w1 })

-- R37: 24 if either is not open; 28 if either would leave the band, before 29 of either.
unfoldable pub handing_checks : Month → Account → Account → Quantity → List Check
handing_checks m a b q =
    (not (a.opened && b.opened), 24)
    ∷ (eqb (giving m a q).number 28 || eqb (taking m b q).number 28, 28)
    ∷ (not (eqb (giving m a q).number 0 && eqb (taking m b q).number 0), 29)
    ∷ []

unfoldable pub transfer_checks : Ledger → Entry → List Check
transfer_checks l e = handing_checks e.date.month (account_at l e.a) (account_at l e.b) (record { 0 = e.w1 })

-- R37: both are stored. They are two accounts, as 7 was asked before.
unfoldable pub post_transfer : Ledger → Entry → Posted
post_transfer l e =
    settle l (verdict (transfer_checks l e))
    (with_account (with_account l e.a (giver l e).account) e.b (receiver l e).account)

-- R37: giver and receiver afterwards, or the refusal that the checks find.
abbrev pub Hands : Result (Account × Account) Refusal → Month → Account → Account → Quantity → Type 0
Hands r m a b q =
    MatchResult r
    (λ p. (verdict (handing_checks m a b q) ≡ 0) × (p.0 ≡ (giving m a q).account) × (p.1 ≡ (taking m b q).account))
    (λ f. verdict (handing_checks m a b q) ≡ number f)
