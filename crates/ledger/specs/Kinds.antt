-- The kinds of entries: their numbers, and one table of what each uses.
use Rattle.std.specs.Prelude.{◌≡◌, ℕ, Bool, cond, eqb, List, [], ◌∷◌, Result, MatchResult}
use Rattle.ledger.specs.Structs.{Uses}
use Rattle.ledger.specs.declared.kinds.Kind.{Kind}
use Rattle.ledger.specs.declared.kinds.Kind.TheVariants as kind
use Rattle.ledger.specs.declared.refusals.Refusal.{Refusal}
use Rattle.ledger.specs.declared.refusals.Refusal.TheVariants as refusal

-- R12, R85, R102 and R108: the twelve kinds, by the number in an entry's first byte.
abbrev pub TERMS : ℕ
TERMS = 1

abbrev pub ENROL : ℕ
ENROL = 2

abbrev pub DELIVER : ℕ
DELIVER = 3

abbrev pub TRANSFER : ℕ
TRANSFER = 4

abbrev pub TRADE : ℕ
TRADE = 5

abbrev pub MEASURE : ℕ
MEASURE = 6

abbrev pub USAGE : ℕ
USAGE = 7

abbrev pub CLOSE_DAY : ℕ
CLOSE_DAY = 8

abbrev pub CLOSE_MONTH : ℕ
CLOSE_MONTH = 9

abbrev pub CONFISCATED : ℕ
CONFISCATED = 10

abbrev pub HOLIDAY : ℕ
HOLIDAY = 11

abbrev pub NOTICE : ℕ
NOTICE = 12

-- R12: what a table has for a kind, or what holds of every kind that it does not name.
unfoldable pub lookup : {A : Type 0} → ℕ → List (ℕ × A) → A → A
lookup kind [] otherwise = otherwise
lookup kind (r ∷ rest) otherwise = cond (eqb kind r.0) r.1 (lookup kind rest otherwise)

-- R12: a row of the table.
abbrev pub row : ℕ → ℕ → ℕ → ℕ → Uses
row accounts flags words since = record { accounts = accounts; flags = flags; words = words; since = since }

-- R15: `since` of a number that is no kind: later than any version of the rules, so it gets 2.
abbrev pub never : ℕ
never = 255

-- R84: old ledgers and archives go by version 1, new ones by version 2.
abbrev pub version : Bool → ℕ
version new = cond new 2 1

-- R12: the accounts that a kind names (none: it is the ledger's matter; one: A's; two: A's and B's), its largest flags, how many of its words
-- it uses, from w1 on, and which version of the rules brought it.
unfoldable pub kind_of : ℕ → Uses
kind_of kind =
    lookup kind
    ((TERMS, row 0 0 6 1)
    ∷ (ENROL, row 1 3 2 1)
    ∷ (DELIVER, row 1 0 2 1)
    ∷ (TRANSFER, row 2 0 2 1)
    ∷ (TRADE, row 1 1 1 1)
    ∷ (MEASURE, row 1 0 1 1)
    ∷ (USAGE, row 1 0 1 1)
    ∷ (CLOSE_DAY, row 0 0 0 1)
    ∷ (CLOSE_MONTH, row 0 0 4 1)
    ∷ (CONFISCATED, row 1 0 1 2)
    ∷ (HOLIDAY, row 0 0 3 2)
    ∷ (NOTICE, row 2 1 1 2)
    ∷ [])
    (row 0 0 0 never)

-- R12: the number that stands for a kind.
unfoldable pub code : Kind → ℕ
code kind.Terms = TERMS
code kind.Enrol = ENROL
code kind.Deliver = DELIVER
code kind.Transfer = TRANSFER
code kind.Trade = TRADE
code kind.Measure = MEASURE
code kind.Usage = USAGE
code kind.CloseDay = CLOSE_DAY
code kind.CloseMonth = CLOSE_MONTH
code kind.Confiscated = CONFISCATED
code kind.Holiday = HOLIDAY
code kind.Notice = NOTICE

-- R12 and R15: the kind that a number stands for; the number that is none's gets 2.
abbrev pub Names : ℕ → Result Kind Refusal → Type 0
Names n r = MatchResult r (λ k. n ≡ code k) (λ f. (f ≡ refusal.NoSuchKind) × ((kind_of n).since ≡ never))
