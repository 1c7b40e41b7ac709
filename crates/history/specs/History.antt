-- What anyone can add up from the posted bytes and the answers to them, and that the last ledger holds just that.
-- Any list to a fresh ledger, old or new, will do, with refused postings and garbage in it; no ledger but the last is looked into.
use Rattle.std.specs.Prelude.{ℕ, zero, suc, ◌+◌, ◌<◌, ◌≤◌, ℤ, pos, ◌+ℤ◌, ◌-ℤ◌, Bool, true, cond, not, ◌&&◌, ◌||◌, eqb, ltb, List, [], ◌∷◌, ◌++◌, map, filter, length, count_by, All, get_or, ◌≡◌}
use Rattle.ledger.specs.declared.entries.Entry.{Entry}
use Rattle.ledger.specs.declared.state.Ledger.{Ledger}
use Rattle.ledger.specs.declared.state.Notice.{Notice}
use Rattle.ledger.specs.declared.answers.Report.{Report}
use Rattle.tariff.specs.Amounts.{inward, outward}
use Rattle.ledger.specs.Kinds.{TERMS, ENROL, DELIVER, TRANSFER, TRADE, CLOSE_DAY, CLOSE_MONTH, NOTICE}
use Rattle.ledger.specs.Entries.{entry_of, company_sells, writer_takes}
use Rattle.ledger.specs.Notice.{written}
use Rattle.ledger.specs.State.{fresh, account_at, no_notice}
use Rattle.ledger.specs.Answers.{quiet}
use Rattle.ledger.specs.Deliver.{amount_under}
use Rattle.ledger.specs.Panel.{bank_of, panel_of}
use Rattle.ledger.specs.Running.{Line, history, run, is_accepted}

-- R61: only accepted postings count.
unfoldable pub accepted : List Line → List Line
accepted [] = []
accepted (x ∷ xs) = cond (is_accepted x) (x ∷ accepted xs) (accepted xs)

-- R61: the fields of a posting.
unfoldable pub entry : Line → Entry
entry x = entry_of x.bytes

-- ---- what accepted postings leave for later ones to go by

-- R113: a letter that stands, and its place: how many accepted postings came before it.
pub record Letter : Type 0 where
  pub place : ℕ
  pub entry : Entry

-- R62: the retainage of the last TERMS; a delivery's bytes alone do not tell its amount.
-- R113: how many postings were accepted, and which letters stand, the newest first; the bytes of a NOTICE alone do not tell whether gas moves.
pub record Known : Type 0 where
  pub retainage : ℕ
  pub place : ℕ
  pub standing : List Letter

-- R62 and R113: before the first posting. The 0 is never used, as nothing is delivered before a TERMS.
unfoldable pub start : Known
start = record { retainage = 0; place = 0; standing = [] }

-- R62: closings alone report what counts. R113: and after one no letter stands.
unfoldable pub closes : Line → Bool
closes x = eqb (entry x).kind CLOSE_DAY || eqb (entry x).kind CLOSE_MONTH

-- R113: two letters answer one another if each names the other's writer, and they have different flags and the same units.
unfoldable pub crosses : Entry → Entry → Bool
crosses s e = eqb s.a e.b && eqb s.b e.a && not (eqb s.flags e.flags) && eqb s.w1 e.w1

-- R113: of standing letters those that a letter answers, and the others.
unfoldable pub met : Entry → List Letter → List Letter
met e ss = filter (λ s. crosses s.entry e) ss

unfoldable pub left : Entry → List Letter → List Letter
left e ss = filter (λ s. not (crosses s.entry e)) ss

-- R113: a NOTICE is a second letter if it answers one that stands.
unfoldable pub completes : Known → Line → Bool
completes k x = eqb (entry x).kind NOTICE && ltb 0 (length (met (entry x) k.standing))

-- R113: a closing leaves none, a second letter those that it does not answer; a first one comes to stand; any other posting leaves them as they are.
unfoldable pub standing_after : Known → Line → List Letter
standing_after k x =
    cond (closes x) []
    (cond (completes k x) (left (entry x) k.standing)
    (cond (eqb (entry x).kind NOTICE) (record { place = k.place; entry = entry x } ∷ k.standing) k.standing))

-- R62 and R113: what is known after one more.
unfoldable pub after : Known → Line → Known
after k x =
    record {
      retainage = cond (eqb (entry x).kind TERMS) (entry x).w4 k.retainage;
      place = suc k.place;
      standing = standing_after k x;
    }

-- ---- a term: what one accepted posting counts, by what is known when it comes

-- R62: a signed number; a posting that has nothing to do with a term counts 0.
abbrev pub Term : Type 0
Term = Known → Line → ℤ

-- R62: the sum over a list, the first of which comes when k is known.
unfoldable pub total : Term → Known → List Line → ℤ
total term k [] = pos 0
total term k (x ∷ xs) = term k x +ℤ total term (after k x) xs

-- ---- the terms of account i that the bytes tell

-- R62: a posting of a kind that names account i as A, or as B.
unfoldable pub by_a : ℕ → ℕ → Line → Bool
by_a kind i x = eqb (entry x).kind kind && eqb (entry x).a i

unfoldable pub by_b : ℕ → ℕ → Line → Bool
by_b kind i x = eqb (entry x).kind kind && eqb (entry x).b i

-- R62: ENROL counts its opening.
unfoldable pub opened_with : ℕ → Term
opened_with i k x = cond (by_a ENROL i x) (pos (entry x).w2) (pos 0)

-- R62: DELIVER counts its amount, rounded by itself before it is summed.
unfoldable pub delivered_to : ℕ → Term
delivered_to i k x = cond (by_a DELIVER i x) (amount_under k.retainage (entry x)).0 (pos 0)

-- R62: TRADE counts as a sale or as a purchase of the company.
unfoldable pub sold_to : ℕ → Term
sold_to i k x = cond (by_a TRADE i x && company_sells (entry x)) (pos (entry x).w1) (pos 0)

unfoldable pub bought_from : ℕ → Term
bought_from i k x = cond (by_a TRADE i x && not (company_sells (entry x))) (pos (entry x).w1) (pos 0)

-- R113: who takes gas by two letters, and who gives it, as the second one tells.
unfoldable pub taker : Entry → ℕ
taker e = cond (writer_takes e) e.a e.b

unfoldable pub giver : Entry → ℕ
giver e = cond (writer_takes e) e.b e.a

-- R62: TRANSFER counts for both, as received and as given. R113: so does a second letter; a first one counts nothing.
unfoldable pub transferred_to : ℕ → Term
transferred_to i k x = cond (by_b TRANSFER i x) (pos (entry x).w1) (cond (completes k x && eqb (taker (entry x)) i) (pos (entry x).w1) (pos 0))

unfoldable pub transferred_from : ℕ → Term
transferred_from i k x = cond (by_a TRANSFER i x) (pos (entry x).w1) (cond (completes k x && eqb (giver (entry x)) i) (pos (entry x).w1) (pos 0))

-- ---- the terms of account i that the answers tell

-- R62: the report of account i, an empty one from any other kind.
unfoldable pub reported : ℕ → Line → Report
reported i x = cond (closes x) (get_or x.answer.reports i quiet) quiet

-- R62: cash by its halves.
unfoldable pub cashed_in : ℕ → Term
cashed_in i k x = pos (inward (reported i x).cash).0

unfoldable pub cashed_out : ℕ → Term
cashed_out i k x = pos (outward (reported i x).cash).0

-- R62: forfeit and bill.
unfoldable pub forfeited : ℕ → Term
forfeited i k x = pos (reported i x).forfeit.0

unfoldable pub billed : ℕ → Term
billed i k x = (reported i x).bill.0

-- R62: one violation day for a mask other than 0.
unfoldable pub violated : ℕ → Term
violated i k x = cond (eqb (reported i x).mask 0) (pos 0) (pos 1)

-- ---- the sums over accepted postings

-- R63: everything that moves a bank.
unfoldable pub bank_sum : ℕ → List Line → ℤ
bank_sum i xs =
    total (opened_with i) start xs
    +ℤ total (delivered_to i) start xs
    +ℤ total (sold_to i) start xs
    -ℤ total (bought_from i) start xs
    +ℤ total (transferred_to i) start xs
    -ℤ total (transferred_from i) start xs
    +ℤ total (cashed_in i) start xs
    -ℤ total (cashed_out i) start xs
    -ℤ total (forfeited i) start xs

-- R63: a sum over accounts 0 to n − 1, and a term of all sixteen together.
unfoldable pub over_first : ℕ → (ℕ → ℤ) → ℤ
over_first zero f = pos 0
over_first (suc n) f = over_first n f +ℤ f n

unfoldable pub of_all : (ℕ → Term) → Term
of_all term k x = over_first 16 (λ i. term i k x)

-- R63: of all accounts together, without transfers and letters, which only move gas among them.
unfoldable pub figure_sum : List Line → ℤ
figure_sum xs =
    total (of_all opened_with) start xs
    +ℤ total (of_all delivered_to) start xs
    +ℤ total (of_all sold_to) start xs
    -ℤ total (of_all bought_from) start xs
    +ℤ total (of_all cashed_in) start xs
    -ℤ total (of_all cashed_out) start xs
    -ℤ total (of_all forfeited) start xs

-- ---- what the last ledger holds of account i beside its bank

-- R64: debt and violation days, 0 where the account is not open.
unfoldable pub owed_of : Ledger → ℕ → ℤ
owed_of l i = cond (account_at l i).opened (account_at l i).owed.0 (pos 0)

unfoldable pub days_of : Ledger → ℕ → ℤ
days_of l i = cond (account_at l i).opened (pos (account_at l i).violation_days) (pos 0)

-- ---- the letters that stand at the end

-- R113: what is known after all of a list.
unfoldable pub known : Known → List Line → Known
known k [] = k
known k (x ∷ xs) = known (after k x) xs

-- R113: the notice that an account has by the letters that stand: its own letter's, if it wrote one of them.
unfoldable pub told : List Letter → ℕ → Notice
told [] i = no_notice
told (s ∷ ss) i = cond (eqb s.entry.a i) (written s.entry) (told ss i)

-- ---- letters that moved gas with one another

-- R115: their places among the accepted postings.
pub record Pair : Type 0 where
  pub first : ℕ
  pub second : ℕ

-- R115: each of some letters, with the one at a place that answers them.
unfoldable pub paired : ℕ → List Letter → List Pair
paired place ss = map (λ s. record { first = s.place; second = place }) ss

-- R115: all of a list, the first of which comes when k is known.
unfoldable pub pairs : Known → List Line → List Pair
pairs k [] = []
pairs k (x ∷ xs) = cond (completes k x) (paired k.place (met (entry x) k.standing)) [] ++ pairs (after k x) xs

-- R115: how often the letter at a place moved gas, as a first one or as a second.
unfoldable pub moves : ℕ → List Pair → ℕ
moves place ps = count_by (λ p. eqb p.first place) ps + count_by (λ p. eqb p.second place) ps

-- R115: the entry at a place; past the end there is none, which has no kind.
unfoldable pub entry_at : List Line → ℕ → Entry
entry_at xs place = get_or (map entry xs) place (entry_of [])

-- R115: at the places of a pair stand two letters that answer one another, one after the other.
abbrev pub AreLetters : List Line → Pair → Type 0
AreLetters xs p =
    (p.first < p.second)
    × ((entry_at xs p.first).kind ≡ NOTICE) × ((entry_at xs p.second).kind ≡ NOTICE)
    × (crosses (entry_at xs p.first) (entry_at xs p.second) ≡ true)

-- ---- striking refused postings

-- R65: the lines left if a refused one is struck where a mark says so; a mark on an accepted one, or past the end, strikes nothing.
unfoldable pub remaining : List Bool → List Line → List Line
remaining [] xs = xs
remaining (m ∷ ms) [] = []
remaining (m ∷ ms) (x ∷ xs) = cond (m && not (is_accepted x)) (remaining ms xs) (x ∷ remaining ms xs)

-- R65: the postings of some lines, to be posted again.
unfoldable pub postings_of : List Line → List (List ℕ)
postings_of [] = []
postings_of (x ∷ xs) = x.bytes ∷ postings_of xs

-- ---- the claims, of every list of postings to an old fresh ledger or to a new one (R84); CONFISCATED and HOLIDAY count in none of the sums

-- R63: each bank is the sum of its terms.
abbrev pub BanksAddUp : Type 0
BanksAddUp = (new : Bool) (bs : List (List ℕ)) (i : ℕ) → i < 16 → bank_of (run (fresh new) bs) i ≡ bank_sum i (accepted (history (fresh new) bs))

-- R63: the panel's number is 0 and its figure the sum over all.
abbrev pub PanelAddsUp : Type 0
PanelAddsUp =
    (new : Bool) (bs : List (List ℕ)) → panel_of (run (fresh new) bs) ≡ record { number = 0; figure = record { 0 = figure_sum (accepted (history (fresh new) bs)) } }

-- R64: what is owed is the sum of the reported bills.
abbrev pub DebtsAddUp : Type 0
DebtsAddUp = (new : Bool) (bs : List (List ℕ)) (i : ℕ) → i < 16 → owed_of (run (fresh new) bs) i ≡ total (billed i) start (accepted (history (fresh new) bs))

-- R64: violation days are the closings that reported a violation.
abbrev pub DaysAddUp : Type 0
DaysAddUp = (new : Bool) (bs : List (List ℕ)) (i : ℕ) → i < 16 → days_of (run (fresh new) bs) i ≡ total (violated i) start (accepted (history (fresh new) bs))

-- R65: the others get the answers that they had, and the last ledger is the same.
abbrev pub StrikingChangesNothing : Type 0
StrikingChangesNothing =
    (new : Bool) (bs : List (List ℕ)) (marks : List Bool)
    → (history (fresh new) (postings_of (remaining marks (history (fresh new) bs))) ≡ remaining marks (history (fresh new) bs))
    × (run (fresh new) (postings_of (remaining marks (history (fresh new) bs))) ≡ run (fresh new) bs)

-- R62: of the sums themselves: whatever the answer to another kind might report, they would not count it.
abbrev pub OnlyClosingsCount : Type 0
OnlyClosingsCount =
    (i : ℕ) (k : Known) (x : Line) → ((entry x).kind ≡ CLOSE_DAY → ⊥) → ((entry x).kind ≡ CLOSE_MONTH → ⊥)
    → (cashed_in i k x ≡ pos 0) × (cashed_out i k x ≡ pos 0) × (forfeited i k x ≡ pos 0) × (billed i k x ≡ pos 0) × (violated i k x ≡ pos 0)

-- R113: the notices of the last ledger are those of the letters that stand by the list, and every member is 0 where none does.
abbrev pub LettersStand : Type 0
LettersStand =
    (new : Bool) (bs : List (List ℕ)) (i : ℕ)
    → (account_at (run (fresh new) bs) i).today.notice ≡ told (known start (accepted (history (fresh new) bs))).standing i

-- R115: no letter moves gas more than once, so none does with more than one other; and those that do are two letters that answer one another.
abbrev pub MovesOnce : Type 0
MovesOnce = (new : Bool) (bs : List (List ℕ)) (place : ℕ) → moves place (pairs start (accepted (history (fresh new) bs))) ≤ 1

abbrev pub PairsCross : Type 0
PairsCross = (new : Bool) (bs : List (List ℕ)) → All (AreLetters (accepted (history (fresh new) bs))) (pairs start (accepted (history (fresh new) bs)))
