-- R99: what the list is good for: those in it, and no others, could be sent the gas now, by a TRANSFER or by two letters.
use Rattle.std.specs.Prelude.{ℕ, ◌<◌, Bool, true, false, ◌&&◌, eqb, length, ◌≡◌}
use Rattle.ledger.specs.Letters.{first_posted, has_transfers, second_posted, transfer_today}
use Rattle.ledger.specs.Posting.{posted}
use Rattle.ledger.specs.State.{account_at}
use Rattle.partners.specs.Structs.{Ledger}
use Rattle.partners.specs.Listing.{partners_of}
use Rattle.partners.specs.EveryList.{listed, is_in}

-- R99: whether the ledger, as it is, would let s send q units to j.
unfoldable pub could_send : Ledger → ℕ → ℕ → ℕ → Bool
could_send l s j q = eqb (posted l (transfer_today l s j q)).answer.number 0

-- R99: of every ledger whose day has TRANSFERs (R112), seller, other account, and quantity that an entry has room for, also where one of them is refused.
abbrev pub ListedCanBeSent : Type 0
ListedCanBeSent =
    (l : Ledger) (s j q : ℕ) → length l.accounts ≡ 16 → has_transfers l ≡ true → q < 4294967296
    → is_in j (listed (partners_of l s q)) ≡ could_send l s j q

-- R99: whether it would accept both letters by which s gives q units to j (R114), the giver's first or the taker's.
unfoldable pub could_write : Bool → Ledger → ℕ → ℕ → ℕ → Bool
could_write giver_first l s j q =
    eqb (first_posted giver_first l s j q).answer.number 0 && eqb (second_posted giver_first l s j q).answer.number 0

-- R99: of every new ledger in which neither has a notice that stands, on any day, and in either order.
abbrev pub ListedCanWrite : Type 0
ListedCanWrite =
    (giver_first : Bool) (l : Ledger) (s j q : ℕ) → length l.accounts ≡ 16 → l.is_new ≡ true → q < 4294967296
    → (account_at l s).today.notice.stands ≡ false → (account_at l j).today.notice.stands ≡ false
    → is_in j (listed (partners_of l s q)) ≡ could_write giver_first l s j q
