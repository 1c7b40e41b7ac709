-- What sets old ledgers and new ones apart, and that an old one is answered as it was before there were new ones.
use Rattle.std.specs.Prelude.{ℕ, min, Bool, false, true, cond, ◌&&◌, ◌||◌, eqb, leb, ◌⊎◌, List, [], length, get_or, ◌≡◌}
use Rattle.tariff.specs.Dates.{before}
use Rattle.ledger.specs.Structs.{Date, Entry, Ledger, Report}
use Rattle.ledger.specs.Kinds.{TERMS, TRANSFER, CLOSE_MONTH, CONFISCATED, HOLIDAY, NOTICE}
use Rattle.ledger.specs.Entries.{entry_of}
use Rattle.ledger.specs.State.{fresh, account_at, held_in, ledger, no_notice}
use Rattle.ledger.specs.Answers.{quiet, refused}
use Rattle.ledger.specs.Closing.{after_day, excess_at}
use Rattle.ledger.specs.Days.{letters_alone, retired}
use Rattle.ledger.specs.Posting.{posted}
use Rattle.ledger.specs.Running.{run}

-- R84: the nine kinds of the old rules.
unfoldable pub is_old_kind : ℕ → Bool
is_old_kind kind = leb TERMS kind && leb kind CLOSE_MONTH

-- R84: no posting makes a ledger new, or old.
abbrev pub KeepsWhich : Type 0
KeepsWhich = (l : Ledger) (b : List ℕ) → (posted l b).ledger.is_new ≡ l.is_new

-- R84: to an old ledger no later kind is one, whatever else the entry holds.
abbrev pub NineKinds : Type 0
NineKinds =
    (l : Ledger) (b : List ℕ) → l.is_new ≡ false → length b ≡ 32 → is_old_kind (entry_of b).kind ≡ false → posted l b ≡ refused l 2

-- R88: an old ledger whose accounts are as the old rules knew them: nothing confiscated was ever told of one.
pub record AsBefore (l : Ledger) : Type 0 where
  pub old : l.is_new ≡ false
  pub untold : (i : ℕ) → ((account_at l i).today.confiscated ≡ false) × ((account_at l i).today.confiscation.0 ≡ 0)

-- R88: a posting leaves it so, and therefore any list of postings to an old fresh ledger does.
abbrev pub StaysAsBefore : Type 0
StaysAsBefore =
    ((l : Ledger) (b : List ℕ) → AsBefore l → AsBefore (posted l b).ledger) × ((bs : List (List ℕ)) → AsBefore (run (fresh false) bs))

-- R88: no posting names a holiday to an old ledger that holds none, and therefore no list of postings to an old fresh ledger does.
abbrev pub StaysUnnamed : Type 0
StaysUnnamed =
    ((l : Ledger) (b : List ℕ) → l.is_new ≡ false → held_in l ≡ [] → held_in (posted l b).ledger ≡ [])
    × ((bs : List (List ℕ)) → held_in (run (fresh false) bs) ≡ [])

-- R111: no letter stands in a ledger: the notice of every account is none, every member 0.
abbrev pub Unlettered : Ledger → Type 0
Unlettered l = (i : ℕ) → (account_at l i).today.notice ≡ no_notice

-- R88: no posting leaves a letter in an old ledger that has none, and therefore no list of postings to an old fresh ledger does.
abbrev pub StaysUnlettered : Type 0
StaysUnlettered =
    ((l : Ledger) (b : List ℕ) → l.is_new ≡ false → Unlettered l → Unlettered (posted l b).ledger)
    × ((bs : List (List ℕ)) → Unlettered (run (fresh false) bs))

-- R112: a TRANSFER comes too late: to a new ledger, dated 1 April 2027 or later.
pub record TooLate (l : Ledger) (e : Entry) : Type 0 where
  pub is_new : l.is_new ≡ true
  pub transfer : e.kind ≡ TRANSFER
  pub from_then_on : before e.date letters_alone ≡ false

-- R112: no ledger answers 36 to anything else; so an old one never does.
abbrev pub RetiredOnly : Type 0
RetiredOnly = (l : Ledger) (b : List ℕ) → (posted l b).answer.number ≡ 36 → TooLate l (entry_of b)

-- R112: 36, and every number that is asked before it.
unfoldable pub up_to_36 : ℕ → Bool
up_to_36 n = (leb 1 n && leb n 7) || (leb 20 n && leb n 22) || eqb n 36

-- R112: a TRANSFER that comes too late gets one of those, whatever else it holds: no ledger accepts it.
abbrev pub RefusesTooLate : Type 0
RefusesTooLate = (l : Ledger) (b : List ℕ) → TooLate l (entry_of b) → up_to_36 (posted l b).answer.number ≡ true

-- R84: the same ledger, told that it is old, or that it is new.
unfoldable pub told : Bool → Ledger → Ledger
told new l = ledger l.begun l.touched new l.date l.terms l.holidays l.accounts

-- R84: the kinds that only new ledgers have, by name: so the two claims below hold the table of kinds to this list.
abbrev pub OnlyNew : ℕ → Type 0
OnlyNew kind = (kind ≡ CONFISCATED) ⊎ (kind ≡ HOLIDAY) ⊎ (kind ≡ NOTICE)

-- R84: so told, it answers any bytes as before, and what it becomes is the same too, but for a CLOSE MONTH, for the kinds that only new ledgers have,
-- and for a TRANSFER of 1 April 2027 or later, which a new ledger refuses (R112).
abbrev pub AlikeOtherwise : Type 0
AlikeOtherwise =
    (l : Ledger) (new : Bool) (b : List ℕ) → ((entry_of b).kind ≡ CLOSE_MONTH → ⊥) → (OnlyNew (entry_of b).kind → ⊥) → retired true (entry_of b) ≡ false
    → posted (told new l) b ≡ record { answer = (posted l b).answer; ledger = told new (posted l b).ledger }

-- R84: it accepts any bytes but those kinds and that TRANSFER where it did, and refuses others with the same number.
abbrev pub AcceptsAlike : Type 0
AcceptsAlike =
    (l : Ledger) (new : Bool) (b : List ℕ) → (OnlyNew (entry_of b).kind → ⊥) → retired true (entry_of b) ≡ false
    → (posted (told new l) b).answer.number ≡ (posted l b).answer.number

-- R86: two reports that differ in the forfeit at most.
pub record SameButForfeit (r s : Report) : Type 0 where
  pub mask : r.mask ≡ s.mask
  pub cash : r.cash ≡ s.cash
  pub bill : r.bill ≡ s.bill

-- R57: what of account i lies above its percentage as a day closes, after the day's cash and with its next step.
unfoldable pub excess_in : Ledger → Date → ℕ → ℕ
excess_in l d i = (excess_at d l.terms (after_day d (account_at l i))).0

-- R86: an accepted CLOSE MONTH reports of an open account, as its forfeit, all of that where the ledger is old; where it is new, the smaller of
-- that and the amount on record.
abbrev pub ForfeitsByRule : Type 0
ForfeitsByRule =
    (l : Ledger) (b : List ℕ) (i : ℕ) → (posted l b).answer.number ≡ 0 → (entry_of b).kind ≡ CLOSE_MONTH → (account_at l i).opened ≡ true
    → (get_or (posted l b).answer.reports i quiet).forfeit.0
    ≡ cond l.is_new (min (account_at l i).today.confiscation.0 (excess_in l (entry_of b).date i)) (excess_in l (entry_of b).date i)

-- R86: what else it reports of an account, mask, cash and bill, is the same of the ledger told otherwise.
abbrev pub ReportsAlike : Type 0
ReportsAlike =
    (l : Ledger) (new : Bool) (b : List ℕ) (i : ℕ) → (posted l b).answer.number ≡ 0 → (entry_of b).kind ≡ CLOSE_MONTH
    → SameButForfeit (get_or (posted l b).answer.reports i quiet) (get_or (posted (told new l) b).answer.reports i quiet)
