-- A TRANSFER of the ledger's day, the two letters that come in its place, and what no letter does by itself.
use Rattle.std.specs.Prelude.{ℕ, ◌/◌, ◌%◌, ◌<◌, Bool, true, false, cond, not, ◌||◌, List, ◌∷◌, ◌++◌, length, replicate, ◌⊎◌, ◌≡◌}
use Rattle.ledger.specs.Structs.{Ledger, Posted}
use Rattle.tariff.specs.Dates.{before}
use Rattle.ledger.specs.Days.{letters_alone}
use Rattle.ledger.specs.Entries.{entry_of, writer_takes}
use Rattle.ledger.specs.Kinds.{NOTICE, TRANSFER}
use Rattle.ledger.specs.MarkedCases.{word}
use Rattle.ledger.specs.Notice.{meets}
use Rattle.ledger.specs.Panel.{bank_of}
use Rattle.ledger.specs.Posting.{posted}
use Rattle.ledger.specs.State.{account_at, no_notice, notice, with_account, with_notice}

-- ---- the bytes, on the ledger's day

-- R11 and R37: a TRANSFER: s gives q units to j, as both notified.
unfoldable pub transfer_today : Ledger → ℕ → ℕ → ℕ → List ℕ
transfer_today l s j q =
    TRANSFER ∷ s ∷ j ∷ 0 ∷ l.date.year % 256 ∷ l.date.year / 256 % 256 ∷ l.date.month.0 ∷ l.date.day
    ∷ word q ++ word q ++ replicate 16 0

-- R11 and R108: a NOTICE: a writes that it gives b q units (flag 0), or takes them from b (1).
unfoldable pub letter_today : Ledger → ℕ → ℕ → ℕ → ℕ → List ℕ
letter_today l a b flag q =
    NOTICE ∷ a ∷ b ∷ flag ∷ l.date.year % 256 ∷ l.date.year / 256 % 256 ∷ l.date.month.0 ∷ l.date.day
    ∷ word q ++ replicate 20 0

-- R112: whether the day has TRANSFERs: an old ledger's always, a new one's before the day from which it has letters alone.
unfoldable pub has_transfers : Ledger → Bool
has_transfers l = not l.is_new || before l.date letters_alone

-- ---- a pair of letters

-- R114: the two by which s gives q units to j: the giver's first, or the taker's.
unfoldable pub first_letter : Bool → Ledger → ℕ → ℕ → ℕ → List ℕ
first_letter giver_first l s j q = cond giver_first (letter_today l s j 0 q) (letter_today l j s 1 q)

unfoldable pub second_letter : Bool → Ledger → ℕ → ℕ → ℕ → List ℕ
second_letter giver_first l s j q = cond giver_first (letter_today l j s 1 q) (letter_today l s j 0 q)

-- R114: what comes of the first, and of the second after it.
unfoldable pub first_posted : Bool → Ledger → ℕ → ℕ → ℕ → Posted
first_posted giver_first l s j q = posted l (first_letter giver_first l s j q)

unfoldable pub second_posted : Bool → Ledger → ℕ → ℕ → ℕ → Posted
second_posted giver_first l s j q = posted (first_posted giver_first l s j q).ledger (second_letter giver_first l s j q)

-- R114: the ledger in which the first letter waits: its writer's notice stands, and the day is touched.
unfoldable pub first_waits : Bool → Ledger → ℕ → ℕ → ℕ → Ledger
first_waits giver_first l s j q =
    cond giver_first
    (with_account l s (with_notice (account_at l s) (notice true false j q)))
    (with_account l j (with_notice (account_at l j) (notice true true s q)))

-- ---- a pair is a TRANSFER

-- R114: a new ledger whose day still has TRANSFERs, in which neither has a notice.
pub record BothFree (l : Ledger) (s j : ℕ) : Type 0 where
  pub sixteen : length l.accounts ≡ 16
  pub is_new : l.is_new ≡ true
  pub has : has_transfers l ≡ true
  pub giver : (account_at l s).today.notice ≡ no_notice
  pub taker : (account_at l j).today.notice ≡ no_notice

-- R114: both letters are accepted, and the ledger is the TRANSFER's.
pub record BothMove (giver_first : Bool) (l : Ledger) (s j q : ℕ) : Type 0 where
  pub first : (first_posted giver_first l s j q).answer.number ≡ 0
  pub second : (second_posted giver_first l s j q).answer.number ≡ 0
  pub same : (second_posted giver_first l s j q).ledger ≡ (posted l (transfer_today l s j q)).ledger

-- R114: the first is accepted and goes on standing, and the second meets the limit that the TRANSFER met.
pub record SecondStops (giver_first : Bool) (l : Ledger) (s j q : ℕ) : Type 0 where
  pub first : (first_posted giver_first l s j q).answer.number ≡ 0
  pub second : (second_posted giver_first l s j q).answer.number ≡ 28
  pub stands : (second_posted giver_first l s j q).ledger ≡ first_waits giver_first l s j q

-- R114: in either order, of every giver, taker, and quantity that an entry has room for. Where the TRANSFER is answered anything else, no letter is
-- accepted either.
abbrev pub PairIsTransfer : Type 0
PairIsTransfer =
    (giver_first : Bool) (l : Ledger) (s j q : ℕ) → BothFree l s j → q < 4294967296
    → ((posted l (transfer_today l s j q)).answer.number ≡ 0 → BothMove giver_first l s j q)
    × ((posted l (transfer_today l s j q)).answer.number ≡ 28 → SecondStops giver_first l s j q)
    × ((first_posted giver_first l s j q).answer.number ≡ 0
    → ((posted l (transfer_today l s j q)).answer.number ≡ 0) ⊎ ((posted l (transfer_today l s j q)).answer.number ≡ 28))

-- R36 and R110: neither a TRANSFER nor a letter is ever answered 29: where 28 finds nothing, every bank stays in its range.
abbrev pub NeverOutOfRange : Type 0
NeverOutOfRange =
    (l : Ledger) (b : List ℕ) → length l.accounts ≡ 16 → ((entry_of b).kind ≡ TRANSFER) ⊎ ((entry_of b).kind ≡ NOTICE)
    → (posted l b).answer.number ≡ 29 → ⊥

-- ---- no gas without the counterpart

-- R115: a letter that has none moves no bank, whatever it is answered.
abbrev pub NoGasAlone : Type 0
NoGasAlone =
    (l : Ledger) (b : List ℕ) → (entry_of b).kind ≡ NOTICE → meets l (entry_of b) ≡ false
    → (i : ℕ) → bank_of (posted l b).ledger i ≡ bank_of l i

-- R115: and two letters of the same side are none of each other's.
abbrev pub SameSide : Type 0
SameSide =
    (l : Ledger) (b : List ℕ) → (entry_of b).kind ≡ NOTICE
    → (account_at l (entry_of b).b).today.notice.takes ≡ writer_takes (entry_of b)
    → (i : ℕ) → bank_of (posted l b).ledger i ≡ bank_of l i
