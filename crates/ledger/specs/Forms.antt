-- What is wrong with an entry by itself: numbers 1 to 7.
use Rattle.std.specs.Prelude.{ℕ, Bool, true, false, cond, not, ◌&&◌, ◌||◌, eqb, leb, ltb, List, [], ◌∷◌, length}
use Rattle.ledger.specs.Structs.{Entry, Uses}
use Rattle.tariff.specs.Bounds.{most_units, most_mdq, most_mcf}
use Rattle.tariff.specs.Dates.{real}
use Rattle.tariff.specs.Terms.{terms_in_range}
use Rattle.tariff.specs.Bill.{prices_in_range}
use Rattle.ledger.specs.Checks.{Check, verdict}
use Rattle.ledger.specs.Kinds as kinds
use Rattle.ledger.specs.Entries.{entry_of, terms_of, prices_of}

-- R15, number 4: an account that the kind uses is none of the sixteen.
unfoldable pub account_too_high : Uses → Entry → Bool
account_too_high k e = (leb 1 k.accounts && leb 16 e.a) || (leb 2 k.accounts && leb 16 e.b)

-- R15, number 5: what a kind does not use is 0, so that one event has only one entry.
unfoldable pub unused_set : Uses → Entry → Bool
unused_set k e =
    (ltb k.accounts 1 && not (eqb e.a 0))
    || (ltb k.accounts 2 && not (eqb e.b 0))
    || ltb k.flags e.flags
    || (ltb k.words 1 && not (eqb e.w1 0))
    || (ltb k.words 2 && not (eqb e.w2 0))
    || (ltb k.words 3 && not (eqb e.w3 0))
    || (ltb k.words 4 && not (eqb e.w4 0))
    || (ltb k.words 5 && not (eqb e.w5 0))
    || (ltb k.words 6 && not (eqb e.w6 0))

-- R13: gas that changes hands, at least one unit.
unfoldable pub some_units : ℕ → Bool
some_units w = leb 1 w && leb w most_units

-- R13: every word that the kind uses is in its range; number 6 otherwise (R15). A HOLIDAY's words have none: its date is asked later (R102).
unfoldable pub words_in_range : Entry → Bool
words_in_range e =
    kinds.lookup e.kind
    ((kinds.TERMS, terms_in_range (terms_of e))
    ∷ (kinds.ENROL, leb e.w1 most_mdq && leb e.w2 most_units)
    ∷ (kinds.DELIVER, leb e.w1 most_units && leb e.w2 most_units)
    ∷ (kinds.TRANSFER, some_units e.w1 && some_units e.w2)
    ∷ (kinds.TRADE, some_units e.w1)
    ∷ (kinds.MEASURE, leb e.w1 most_mdq)
    ∷ (kinds.USAGE, leb e.w1 most_mcf)
    ∷ (kinds.CLOSE_DAY, true)
    ∷ (kinds.CLOSE_MONTH, prices_in_range (prices_of e))
    ∷ (kinds.CONFISCATED, leb e.w1 most_units)
    ∷ (kinds.HOLIDAY, true)
    ∷ (kinds.NOTICE, some_units e.w1)
    ∷ [])
    false

-- R15, number 7: giver and receiver of a TRANSFER are the same, or do not tell the same quantity; who writes a NOTICE is also who it names (R108).
unfoldable pub wrong_transfer : Entry → Bool
wrong_transfer e =
    (eqb e.kind kinds.TRANSFER && (eqb e.a e.b || not (eqb e.w1 e.w2))) || (eqb e.kind kinds.NOTICE && eqb e.a e.b)

-- R15: numbers 3 to 7, of a kind that exists.
unfoldable pub field_checks : Entry → List Check
field_checks e =
    (not (real e.date), 3)
    ∷ (account_too_high (kinds.kind_of e.kind) e, 4)
    ∷ (unused_set (kinds.kind_of e.kind) e, 5)
    ∷ (not (words_in_range e), 6)
    ∷ (wrong_transfer e, 7)
    ∷ []

unfoldable pub field_number : Entry → ℕ
field_number e = verdict (field_checks e)

-- R15: number 2 comes before them, as they ask what the kind uses. A kind of the new rules is none in an old ledger or archive (R84).
unfoldable pub entry_checks : Bool → Entry → List Check
entry_checks new e = (not (leb (kinds.kind_of e.kind).since (kinds.version new)), 2) ∷ field_checks e

-- R15: the number of 32 bytes: 0, or 2 to 7.
unfoldable pub entry_number : Bool → Entry → ℕ
entry_number new e = verdict (entry_checks new e)

-- R15: the number of bytes of any length: 0, or 1 to 7.
unfoldable pub form_number : Bool → List ℕ → ℕ
form_number new bytes = cond (eqb (length bytes) 32) (entry_number new (entry_of bytes)) 1
