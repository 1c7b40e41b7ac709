-- A TRANSFER of the ledger's day is accepted exactly when each of its checks finds nothing wrong; 29 is never among them, as a bank within the band is
-- within its range.
use Prim.Native.Nat.{ℕ, ◌+◌, ◌*◌, ◌/◌, ◌%◌, ◌<◌}
use mathlib.Core.Path.{◌≡◌, refl, sym, ap, ◌∙◌}
use mathlib.Core.Bool.{Bool, true, false, cond, not, ◌&&◌, ◌||◌, false≢true}
use mathlib.Core.List.{List, [], ◌∷◌}
use native.Mathlib.Nat.{div-div-eq-div-mul}
use native.Mathlib.Omega.{arith}
use lib.Dec.{eqb, leb}
use lib.ListN.{length}
use borrow.Author.Tests.{eqb-true, eqb-false, eq-eqb, ne_eqb, lt-leb}
use Rattle.tariff.specs.Amounts.{less, more, within}
use Rattle.tariff.specs.Dates.{before, real, same_date}
use Rattle.tariff.specs.Limits.{above_maximum, below_minimum}
use Rattle.tariff.proofs.Bands.{giver_stays, taker_stays}
use Rattle.tariff.proofs.Bools.{or_left, or_right, parts}
use Rattle.tariff.proofs.Laws.{same_date_lem}
use Rattle.tariff.proofs.Ranges.{date_bounds}
use Rattle.ledger.specs.Answers.{plain, refused, settle}
use Rattle.ledger.specs.Checks.{verdict}
use Rattle.ledger.specs.Days.{letters_alone, retired, wrong_day}
use Rattle.ledger.specs.Entries.{byte_at, entry_of, half_at, word_at}
use Rattle.ledger.specs.Forms.{account_too_high, entry_checks, field_checks, some_units, unused_set, words_in_range, wrong_transfer}
use Rattle.ledger.specs.Gas.{after_giving, after_taking, giving, giving_checks, taking, taking_checks}
use Rattle.ledger.specs.Kinds.{kind_of, lookup, version}
use Rattle.ledger.specs.Letters.{has_transfers, transfer_today}
use Rattle.ledger.specs.Posting.{admission, post_entry, post_kind, post_several, posted, standing_checks}
use Rattle.ledger.specs.Ranges.{account_in_range, in_range}
use Rattle.ledger.specs.State.{account_at, with_bank}
use Rattle.ledger.specs.Structs.{Account, Date, Entry, Ledger, Month, Posted, Quantity, Units}
use Rattle.ledger.specs.Transfer.{post_transfer, handing_checks, transfer_checks}
use Rattle.ledger.proofs.Admissions.{is_begun, is_ranged, is_right}
use Rattle.ledger.proofs.Bounded.{account_ranged, begun_ranged, bounded}
use Rattle.ledger.proofs.RightEntries.{a_fits, b_fits, transfer_fits, transfer_units}

-- ---- what is said

-- the entry: s gives q to j, as both notified
abbrev pub transfer_on : Date → ℕ → ℕ → ℕ → Entry
transfer_on date s j q = record { kind = 4; a = s; b = j; flags = 0; date = date; w1 = q; w2 = q; w3 = 0; w4 = 0; w5 = 0; w6 = 0 }

-- what is asked before gas moves between two, whoever of them gives
pub record Parties (l : Ledger) (s j q : ℕ) : Type 0 where
  pub from : s < 16
  pub to : j < 16
  pub apart : s ≡ j → ⊥
  pub units : some_units q ≡ true
  pub ranged : in_range l ≡ true
  pub begun : l.begun ≡ true
  pub gives : (account_at l s).opened ≡ true
  pub takes : (account_at l j).opened ≡ true

pub other_way : (l : Ledger) (s j q : ℕ) → Parties l s j q → Parties l j s q
other_way l s j q t =
    record {
      from = t.to;
      to = t.from;
      apart = λ p. t.apart (sym p);
      units = t.units;
      ranged = t.ranged;
      begun = t.begun;
      gives = t.takes;
      takes = t.gives;
    }

-- what is asked of a TRANSFER
pub record Transferable (l : Ledger) (s j q : ℕ) : Type 0 where
  pub parties : Parties l s j q
  pub kept : below_minimum l.date.month (account_at l s).capacity.bcq (less (account_at l s).bank (record { 0 = q })) ≡ false
  pub fits : above_maximum l.date.month (account_at l j).capacity.bcq (more (account_at l j).bank (record { 0 = q })) ≡ false

-- ---- the bytes, read back

half_back : (n : ℕ) → n < 65536 → n % 256 + 256 * (n / 256 % 256) ≡ n
half_back n h = omega arith

bytes_back : (n : ℕ) → n < 4294967296 → n % 256 + 256 * (n / 256 % 256 + 256 * (n / 256 / 256 % 256 + 256 * (n / 256 / 256 / 256 % 256))) ≡ n
bytes_back n h =
    let top : n / 256 / 256 / 256 < 256 = omega arith in
    let one : n / 256 / 256 % 256 + 256 * (n / 256 / 256 / 256 % 256) ≡ n / 256 / 256 = half_back (n / 256 / 256) (omega arith) in
    omega arith

pub word_back : (n : ℕ) → n < 4294967296 → n % 256 + 256 * (n / 256 % 256 + 256 * (n / 65536 % 256 + 256 * (n / 16777216 % 256))) ≡ n
word_back n h =
    let two : n / 256 / 256 ≡ n / 65536 = div-div-eq-div-mul n 256 256 in
    let three : n / 65536 / 256 ≡ n / 16777216 = div-div-eq-div-mul n 65536 256 in
    rw (← three, ← two) (bytes_back n h)

-- a date as its bytes tell it; that is the date, where there is such a one
abbrev pub told_date : Date → Date
told_date d = record { year = d.year % 256 + 256 * (d.year / 256 % 256); month = d.month; day = d.day }

pub date_back : (d : Date) → real d ≡ true → told_date d ≡ d
date_back d r =
    let bounds = date_bounds d r in
    let year : d.year < 65536 = omega arith in
    rw (half_back d.year year)

entry_back : (l : Ledger) (s j q : ℕ) → q < 4294967296 → entry_of (transfer_today l s j q) ≡ transfer_on (told_date l.date) s j q
unfolding transfer_today entry_of byte_at half_at word_at
entry_back l s j q h = rw (word_back q h)

-- ---- an account in range with another bank in range

with_bank_lem : (a : Account) (bank : Units) → account_in_range a ≡ true → within 1000000000 100000000000 bank ≡ true → account_in_range (with_bank a bank) ≡ true
unfolding account_in_range with_bank
with_bank_lem a bank h w = let was : within 1000000000 100000000000 a.bank ≡ true = search parts depth 9 in rw w (rw was at h)

bank_ranged : (a : Account) → account_in_range a ≡ true → within 1000000000 100000000000 a.bank ≡ true
unfolding account_in_range
bank_ranged a h = search parts depth 9

-- ---- what handing answers between two accounts in range: 24, 28 or 0

abbrev pub limit_number : Bool → ℕ
limit_number stops = cond stops 28 0

abbrev pub hand_number : Bool → Bool → ℕ
hand_number opened stops = cond (not opened) 24 (limit_number stops)

abbrev too_low : Month → Account → Quantity → Bool
too_low m a q = below_minimum m a.capacity.bcq (less a.bank q)

abbrev too_high : Month → Account → Quantity → Bool
too_high m a q = above_maximum m a.capacity.bcq (more a.bank q)

module _ (m : Month) (a : Account) (q : Quantity) (h : account_in_range a ≡ true) where
  gives_within : too_low m a q ≡ false → account_in_range (after_giving a q) ≡ true
  unfolding after_giving
  gives_within kept = with_bank_lem a _ h (giver_stays 1000000000 100000000000 m a.capacity.bcq a.bank q (bank_ranged a h) kept)

  takes_within : too_high m a q ≡ false → account_in_range (after_taking a q) ≡ true
  unfolding after_taking
  takes_within fits =
      with_bank_lem a _ h (taker_stays 1000000000 100000000000 m a.capacity.bcq a.bank q (bounded a h).bcq (omega arith) (bank_ranged a h) fits)

  gave_number : (giving m a q).number ≡ limit_number (too_low m a q)
  unfolding giving giving_checks after_giving with_bank verdict
  gave_number = go (too_low m a q) refl
    where
      go : (t : Bool) → too_low m a q ≡ t → cond t 28 (cond (not (account_in_range (with_bank a (less a.bank q)))) 29 0) ≡ limit_number t
      go true z = refl
      go false z = rw (gives_within z)

  took_number : (taking m a q).number ≡ limit_number (too_high m a q)
  unfolding taking taking_checks after_taking with_bank verdict
  took_number = go (too_high m a q) refl
    where
      go : (t : Bool) → too_high m a q ≡ t → cond t 28 (cond (not (account_in_range (with_bank a (more a.bank q)))) 29 0) ≡ limit_number t
      go true z = refl
      go false z = rw (takes_within z)

-- whether a limit stops it
abbrev pub stops : Month → Account → Account → Quantity → Bool
stops m a b q = too_low m a q || too_high m b q

by_limits : (o x y : Bool)
    → cond (not o) 24 (cond (eqb (limit_number x) 28 || eqb (limit_number y) 28) 28 (cond (not (eqb (limit_number x) 0 && eqb (limit_number y) 0)) 29 0))
    ≡ hand_number o (x || y)
by_limits false x y = refl
by_limits true true y = refl
by_limits true false true = refl
by_limits true false false = refl

pub handing_number : (m : Month) (a b : Account) (q : Quantity) → account_in_range a ≡ true → account_in_range b ≡ true
    → verdict (handing_checks m a b q) ≡ hand_number (a.opened && b.opened) (stops m a b q)
unfolding handing_checks verdict
handing_number m a b q h k = rw (gave_number m a q h, took_number m b q k) (by_limits (a.opened && b.opened) (too_low m a q) (too_high m b q))

-- what an answer tells
pub handed_freely : (x y t : Bool) → hand_number (x && y) t ≡ 0 → (x ≡ true) × (y ≡ true) × (t ≡ false)
handed_freely true true true h = absurd (omega arith)
handed_freely true true false h = (refl, refl, refl)
handed_freely true false t h = absurd (omega arith)
handed_freely false y t h = absurd (omega arith)

-- ---- no fault before the kind's own checks

pub no_fault : (b₂ b₃ b₄ b₅ b₆ b₇ b₂₀ b₂₁ b₂₂ b₃₆ b₂₃ : Bool) → b₂ ≡ false → b₃ ≡ false → b₄ ≡ false → b₅ ≡ false → b₆ ≡ false → b₇ ≡ false
    → b₂₀ ≡ false → b₂₁ ≡ false → b₂₂ ≡ false → b₃₆ ≡ false → b₂₃ ≡ false
    → verdict ((b₂, 2) ∷ (b₃, 3) ∷ (b₄, 4) ∷ (b₅, 5) ∷ (b₆, 6) ∷ (b₇, 7) ∷ (b₂₀, 20) ∷ (b₂₁, 21) ∷ (b₂₂, 22) ∷ (b₃₆, 36) ∷ (b₂₃, 23) ∷ []) ≡ 0
unfolding verdict
no_fault b₂ b₃ b₄ b₅ b₆ b₇ b₂₀ b₂₁ b₂₂ b₃₆ b₂₃ f₂ f₃ f₄ f₅ f₆ f₇ f₂₀ f₂₁ f₂₂ f₃₆ f₂₃ = rw (f₂, f₃, f₄, f₅, f₆, f₇, f₂₀, f₂₁, f₂₂, f₃₆, f₂₃)

-- the bytes tell the ledger's own day, where it has begun
pub told_today : (l : Ledger) → in_range l ≡ true → l.begun ≡ true → (real (told_date l.date) ≡ true) × (same_date (told_date l.date) l.date ≡ true)
told_today l ranged begun =
    let r = (begun_ranged l ranged begun).0 in
    (ap real (date_back l.date r) ∙ r, ap (λ (d : Date). same_date d l.date) (date_back l.date r) ∙ same_date_lem l.date)

module _ (l : Ledger) (s j q : ℕ) where
  abbrev pub e : Entry
  e = transfer_on (told_date l.date) s j q

  abbrev bytes : List ℕ
  bytes = transfer_today l s j q

  -- ---- the number

  as_transfer : post_kind l e ≡ post_transfer l e
  unfolding post_kind post_several kind_of lookup
  as_transfer = refl

  pub transfer_posted : q < 4294967296 → posted l bytes ≡ cond (eqb (admission l e) 0) (post_transfer l e) (refused l (admission l e))
  unfolding posted post_entry
  transfer_posted h =
      rw (entry_back l s j q h) (unfold transfer_today in ap (λ (p : Posted). cond (eqb (admission l e) 0) p (refused l (admission l e))) as_transfer)

  number_by : (t : Bool) → (cond t (post_transfer l e) (refused l (admission l e))).answer.number ≡ cond t (verdict (transfer_checks l e)) (admission l e)
  unfolding post_transfer settle refused plain
  number_by true = refl
  number_by false = refl

  pub transfer_number : q < 4294967296 → (posted l bytes).answer.number ≡ cond (eqb (admission l e) 0) (verdict (transfer_checks l e)) (admission l e)
  transfer_number h = ap (λ (p : Posted). p.answer.number) (transfer_posted h) ∙ number_by (eqb (admission l e) 0)

  both_clear : (n m : ℕ) (t : Bool) → eqb n 0 ≡ t → cond t m n ≡ 0 → (n ≡ 0) × (m ≡ 0)
  both_clear n m true z h = (eqb-true n 0 z, h)
  both_clear n m false z h = absurd (eqb-false n 0 z h)

  abbrev giver : Account
  giver = account_at l s

  abbrev taker : Account
  taker = account_at l j

  abbrev pub limited : Bool
  limited = stops l.date.month giver taker (record { 0 = q })

  -- ---- admitted, so the parties are right

  module _ (h : admission l e ≡ 0) where
    right_accounts : (s < 16) × (j < 16)
    unfolding kind_of lookup
    right_accounts = (a_fits e (is_right l e h) (omega arith), b_fits e (is_right l e h) (omega arith))

    pub parties_of : giver.opened ≡ true → taker.opened ≡ true → Parties l s j q
    parties_of gives takes =
        let right = is_right l e h in
        record {
          from = right_accounts.0;
          to = right_accounts.1;
          apart = (transfer_fits e right refl).1;
          units = transfer_units e right refl;
          ranged = is_ranged l e h;
          begun = is_begun l e h (λ (k : 4 ≡ 1). omega arith);
          gives = gives;
          takes = takes;
        }

    pub limits_number : length l.accounts ≡ 16 → verdict (transfer_checks l e) ≡ hand_number (giver.opened && taker.opened) limited
    unfolding transfer_checks
    limits_number size =
        handing_number l.date.month giver taker (record { 0 = q })
        (account_ranged l s size right_accounts.0 (is_ranged l e h))
        (account_ranged l j size right_accounts.1 (is_ranged l e h))

  pub accepted_only_if : length l.accounts ≡ 16 → q < 4294967296 → (posted l bytes).answer.number ≡ 0 → Transferable l s j q
  accepted_only_if size w z =
      let zeros = both_clear (admission l e) (verdict (transfer_checks l e)) (eqb (admission l e) 0) refl (sym (transfer_number w) ∙ z) in
      let free = handed_freely giver.opened taker.opened limited (sym (limits_number zeros.0 size) ∙ zeros.1) in
      record { parties = parties_of zeros.0 free.0 free.1; kept = or_left _ _ free.2; fits = or_right _ _ free.2 }

  -- ---- the parties are right, so admitted

  module _ (has : has_transfers l ≡ true) (t : Parties l s j q) where
    not_gone : (new early : Bool) → not new || early ≡ true → new && not early ≡ false
    not_gone true true z = refl
    not_gone true false z = absurd (false≢true z)
    not_gone false early z = refl

    not_retired : retired l.is_new e ≡ false
    unfolding retired has_transfers
    not_retired = rw (date_back l.date (begun_ranged l t.ranged t.begun).0) (not_gone l.is_new (before l.date letters_alone) has)

    any_version : (new : Bool) → leb 1 (version new) ≡ true
    any_version true = refl
    any_version false = refl

    pub admitted : admission l e ≡ 0
    unfolding admission entry_checks field_checks standing_checks kind_of lookup account_too_high unused_set words_in_range wrong_transfer wrong_day
    admitted =
        no_fault _ _ _ _ _ _ _ _ _ _ _
        (rw (any_version l.is_new))
        (rw (told_today l t.ranged t.begun).0)
        (rw (lt-leb 16 s t.from, lt-leb 16 j t.to))
        refl
        (rw t.units)
        (rw (ne_eqb s j t.apart, eq-eqb q q refl))
        (rw t.ranged)
        (rw t.begun)
        (rw (t.begun, (told_today l t.ranged t.begun).1))
        not_retired
        refl

  pub accepted_if : length l.accounts ≡ 16 → has_transfers l ≡ true → q < 4294967296 → Transferable l s j q → (posted l bytes).answer.number ≡ 0
  accepted_if size has w t =
      transfer_number w
      ∙ rw (admitted has t.parties)
      (limits_number (admitted has t.parties) size ∙ rw (t.parties.gives, t.parties.takes, t.kept, t.fits))
