-- A posting, whole: bytes of any length and content, to any ledger.
use Rattle.std.specs.Prelude.{ℕ, cond, not, ◌&&◌, eqb, List, [], ◌∷◌, ◌++◌, length}
use Rattle.ledger.specs.Structs.{Account, Change, Entry, Ledger, Posted, Terms}
use Rattle.tariff.specs.Dates.{same_date}
use Rattle.ledger.specs.Checks.{Check, verdict}
use Rattle.ledger.specs.Kinds as kinds
use Rattle.ledger.specs.Entries.{entry_of}
use Rattle.ledger.specs.Forms.{entry_checks}
use Rattle.ledger.specs.Ranges.{in_range}
use Rattle.ledger.specs.State.{account_at, held_in, with_account}
use Rattle.ledger.specs.Answers.{refused, settle}
use Rattle.ledger.specs.Terms.{post_terms}
use Rattle.ledger.specs.Enrol.{enrolment}
use Rattle.ledger.specs.Deliver.{delivery}
use Rattle.ledger.specs.Transfer.{post_transfer}
use Rattle.ledger.specs.Trade.{trade}
use Rattle.ledger.specs.Measure.{measurement}
use Rattle.ledger.specs.Usage.{usage}
use Rattle.ledger.specs.Confiscated.{confiscation}
use Rattle.ledger.specs.Closings.{post_closing}
use Rattle.ledger.specs.Holiday.{post_holiday}
use Rattle.ledger.specs.Notice.{post_notice}
use Rattle.ledger.specs.Days.{retired, wrong_day}

-- R22: 20 if the ledger is out of range, 21 if it has not begun and this is no TERMS, 22 if it has begun and is at another date, 36 if this is a
-- TRANSFER and the ledger has letters alone by now (R112).
-- 23 belongs to the kinds (R27, R30, R40, R42, R85) and is asked here as the first of their checks.
unfoldable pub standing_checks : Ledger → Entry → List Check
standing_checks l e =
    (not (in_range l), 20)
    ∷ (not l.begun && not (eqb e.kind kinds.TERMS), 21)
    ∷ (l.begun && not (same_date e.date l.date), 22)
    ∷ (retired l.is_new e, 36)
    ∷ (wrong_day l.touched (held_in l) e, 23)
    ∷ []

-- R22: everything that is asked before the kind's own checks: 2 to 7, then 20 to 22, 36 and 23.
unfoldable pub admission : Ledger → Entry → ℕ
admission l e = verdict (entry_checks l.is_new e ++ standing_checks l e)

-- R23: the kinds that name no account, or two. The last line is never reached, as admission refuses unknown kinds.
unfoldable pub post_several : Ledger → Entry → Posted
post_several l e =
    kinds.lookup e.kind
    ((kinds.TERMS, post_terms l e)
    ∷ (kinds.TRANSFER, post_transfer l e)
    ∷ (kinds.CLOSE_DAY, post_closing l e)
    ∷ (kinds.CLOSE_MONTH, post_closing l e)
    ∷ (kinds.HOLIDAY, post_holiday l e)
    ∷ (kinds.NOTICE, post_notice l e)
    ∷ [])
    (refused l 2)

-- R23: the kinds that name one account, and change nothing but it.
unfoldable pub change_of : Terms → Account → Entry → Change
change_of t a e =
    kinds.lookup e.kind
    ((kinds.ENROL, enrolment t a e)
    ∷ (kinds.DELIVER, delivery t a e)
    ∷ (kinds.TRADE, trade a e)
    ∷ (kinds.MEASURE, measurement a e)
    ∷ (kinds.USAGE, usage a e)
    ∷ (kinds.CONFISCATED, confiscation a e)
    ∷ [])
    (record { number = 2; account = a })

-- R23: the changed account takes its place where the number is 0.
unfoldable pub stored : Ledger → ℕ → Change → Posted
stored l i c = settle l c.number (with_account l i c.account)

-- R23: the kind's own checks, and what it does.
unfoldable pub post_kind : Ledger → Entry → Posted
post_kind l e =
    cond (eqb (kinds.kind_of e.kind).accounts 1)
    (stored l e.a (change_of l.terms (account_at l e.a) e))
    (post_several l e)

-- R23: an entry of 32 bytes.
unfoldable pub post_entry : Ledger → Entry → Posted
post_entry l e = cond (eqb (admission l e) 0) (post_kind l e) (refused l (admission l e))

-- R23: any bytes; number 1 comes before all others. A ledger that is lent becomes the one returned here (R24).
unfoldable pub posted : Ledger → List ℕ → Posted
posted l bytes = cond (eqb (length bytes) 32) (post_entry l (entry_of bytes)) (refused l 1)
