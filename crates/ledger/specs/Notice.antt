-- NOTICE: one of two letters, each from one supplier; with the second the gas of one becomes that of the other.
use Rattle.std.specs.Prelude.{Bool, true, cond, not, ◌&&◌, eqb, List, [], ◌∷◌}
use Rattle.ledger.specs.Structs.{Account, Change, Entry, Ledger, Month, Notice, Posted, Quantity}
use Rattle.ledger.specs.Checks.{Check, verdict}
use Rattle.ledger.specs.Entries.{writer_takes}
use Rattle.ledger.specs.State.{account_at, no_notice, notice, with_account, with_notice}
use Rattle.ledger.specs.Ranges.{account_in_range}
use Rattle.ledger.specs.Gas.{giving, taking}
use Rattle.ledger.specs.Transfer.{handing_checks}
use Rattle.ledger.specs.Answers.{settle}

-- R108: the notice that a letter leaves where nothing answers it.
unfoldable pub written : Entry → Notice
written e = notice true (writer_takes e) e.b e.w1

-- R109: the notice that stands of B is the counterpart of a letter from A: it names A, has the other side, and tells the same units.
unfoldable pub awaits : Notice → Entry → Bool
awaits n e = n.stands && eqb n.other e.a && cond n.takes (not (writer_takes e)) (writer_takes e) && eqb n.units.0 e.w1

-- R109: whether the ledger has the counterpart of a letter.
unfoldable pub meets : Ledger → Entry → Bool
meets l e = awaits (account_at l e.b).today.notice e

-- ---- the letter that meets its counterpart

-- R110: one party's part, by whether it takes.
unfoldable pub exchanging : Bool → Month → Account → Quantity → Change
exchanging takes m a q = cond takes (taking m a q) (giving m a q)

-- R110: who gives is handed first, as in a TRANSFER (R37); a wrote, and b is the other.
unfoldable pub exchange_checks : Entry → Account → Account → List Check
exchange_checks e a b =
    cond (writer_takes e) (handing_checks e.date.month b a (record { 0 = e.w1 })) (handing_checks e.date.month a b (record { 0 = e.w1 }))

-- R110: the one who wrote, and the other, whose notice goes.
unfoldable pub writer_after : Entry → Account → Account
writer_after e a = (exchanging (writer_takes e) e.date.month a (record { 0 = e.w1 })).account

unfoldable pub other_after : Entry → Account → Account
other_after e b = with_notice (exchanging (not (writer_takes e)) e.date.month b (record { 0 = e.w1 })).account no_notice

-- ---- any letter

-- R110: the writer, with its letter standing.
unfoldable pub writer_waiting : Entry → Account → Account
writer_waiting e a = with_notice a (written e)

-- R110: 24 if either account is not open, 26 while the writer's own notice stands, even if this letter has its counterpart; then 28 and 29 where gas
-- would move, and else 29, which never comes.
unfoldable pub notice_checks : Ledger → Entry → List Check
notice_checks l e =
    (not ((account_at l e.a).opened && (account_at l e.b).opened), 24)
    ∷ ((account_at l e.a).today.notice.stands, 26)
    ∷ cond (meets l e) (exchange_checks e (account_at l e.a) (account_at l e.b))
    ((not (account_in_range (writer_waiting e (account_at l e.a))), 29) ∷ [])

-- R110: both parties are stored, or the writer alone. They are two accounts, as 7 was asked before.
unfoldable pub exchanged : Ledger → Entry → Ledger
exchanged l e = with_account (with_account l e.a (writer_after e (account_at l e.a))) e.b (other_after e (account_at l e.b))

unfoldable pub waiting : Ledger → Entry → Ledger
waiting l e = with_account l e.a (writer_waiting e (account_at l e.a))

unfoldable pub post_notice : Ledger → Entry → Posted
post_notice l e = settle l (verdict (notice_checks l e)) (cond (meets l e) (exchanged l e) (waiting l e))
