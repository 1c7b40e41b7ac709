-- A letter of the ledger's day: where its parties are right and the writer's own notice does not stand, it waits if the counterpart is not there, and is
-- answered what handing is if it is.
use Prim.Native.Nat.{ℕ, ◌≤◌, ◌<◌}
use mathlib.Core.Path.{◌≡◌, refl, sym, ap, ◌∙◌}
use mathlib.Core.Bool.{Bool, true, false, cond, not, ◌&&◌}
use mathlib.Core.List.{List, [], ◌∷◌}
use native.Mathlib.Omega.{arith}
use lib.Dec.{eqb}
use lib.ListN.{length}
use borrow.Author.Tests.{eqb-true, eqb-false, eq-eqb, ne_eqb, le-ltb, lt-leb, lt-ltb, not-false}
use Rattle.tariff.proofs.Bools.{and_left, and_right, or_left, or_right}
use Rattle.ledger.specs.Answers.{plain, refused, settle}
use Rattle.ledger.specs.Checks.{verdict}
use Rattle.ledger.specs.Days.{retired, wrong_day}
use Rattle.ledger.specs.Entries.{byte_at, entry_of, half_at, word_at, writer_takes}
use Rattle.ledger.specs.Forms.{account_too_high, entry_checks, field_checks, unused_set, words_in_range, wrong_transfer}
use Rattle.ledger.specs.Kinds.{kind_of, lookup}
use Rattle.ledger.specs.Letters.{first_letter, first_posted, letter_today, second_letter, second_posted}
use Rattle.ledger.specs.Notice.{awaits, exchanged, exchange_checks, meets, notice_checks, post_notice, waiting, writer_waiting, written}
use Rattle.ledger.specs.Posting.{admission, post_entry, post_kind, post_several, posted, standing_checks}
use Rattle.ledger.specs.Ranges.{account_in_range, in_range, notice_in_range}
use Rattle.ledger.specs.State.{account_at, with_account, with_notice, with_today}
use Rattle.ledger.specs.Structs.{Account, Date, Entry, Ledger, Month, Notice, Posted, Quantity}
use Rattle.ledger.specs.Transfer.{handing_checks}
use Rattle.ledger.proofs.Admissions.{is_begun, is_ranged, is_right}
use Rattle.ledger.proofs.Bounded.{account_ranged}
use Rattle.ledger.proofs.OneStep.{account_stored, ranged_stored, size_stored}
use Rattle.ledger.proofs.RightEntries.{a_fits, b_fits, notice_fits, notice_units}
use Rattle.ledger.proofs.Transfers.{Parties, Transferable, hand_number, handing_number, limit_number, no_fault, other_way, stops, told_date, told_today, word_back}
use Rattle.ledger.proofs.Verdicts.{first}

-- the entry: w writes to o, and gives or takes q
abbrev pub letter_on : Date → ℕ → ℕ → ℕ → ℕ → Entry
letter_on date w o f q = record { kind = 12; a = w; b = o; flags = f; date = date; w1 = q; w2 = 0; w3 = 0; w4 = 0; w5 = 0; w6 = 0 }

letter_back : (l : Ledger) (w o f q : ℕ) → q < 4294967296 → entry_of (letter_today l w o f q) ≡ letter_on (told_date l.date) w o f q
unfolding letter_today entry_of byte_at half_at word_at
letter_back l w o f q h = rw (word_back q h)

-- an account in range with a notice in range
with_notice_ranged : (a : Account) (n : Notice) → account_in_range a ≡ true → notice_in_range n ≡ true → account_in_range (with_notice a n) ≡ true
unfolding account_in_range with_notice with_today
with_notice_ranged a n h w = rw w (rw (and_right _ (notice_in_range a.today.notice) h) at h)

-- ---- what a letter's checks come to: 29 never

-- 24, 26, and n where the counterpart is there
abbrev pub letter_checks_number : Bool → Bool → Bool → ℕ → ℕ
letter_checks_number opened stands met n = cond (not opened) 24 (cond stands 26 (cond met n 0))

-- who gives is handed first
abbrev pub exchange_number : Bool → Month → Account → Account → Quantity → ℕ
exchange_number takes m a b q =
    cond takes (hand_number (b.opened && a.opened) (stops m b a q)) (hand_number (a.opened && b.opened) (stops m a b q))

exchange_verdict : (e : Entry) (a b : Account) → account_in_range a ≡ true → account_in_range b ≡ true
    → verdict (exchange_checks e a b) ≡ exchange_number (writer_takes e) e.date.month a b (record { 0 = e.w1 })
unfolding exchange_checks
exchange_verdict e a b h k = go (writer_takes e) e.date.month (record { 0 = e.w1 })
  where
    go : (t : Bool) (m : Month) (q : Quantity) → verdict (cond t (handing_checks m b a q) (handing_checks m a b q)) ≡ exchange_number t m a b q
    go true m q = handing_number m b a q k h
    go false m q = handing_number m a b q h k

module _ (l : Ledger) (e : Entry) (size : length l.accounts ≡ 16) (h : admission l e ≡ 0) (k : e.kind ≡ 12) where
  abbrev writer : Account
  writer = account_at l e.a

  abbrev other : Account
  other = account_at l e.b

  right : (e.a < 16) × (e.b < 16)
  unfolding kind_of lookup
  right = let two : (kind_of e.kind).accounts ≡ 2 = rw k in (a_fits e (is_right l e h) (omega arith), b_fits e (is_right l e h) (omega arith))

  writer_ranged : account_in_range writer ≡ true
  writer_ranged = account_ranged l e.a size right.0 (is_ranged l e h)

  other_ranged : account_in_range other ≡ true
  other_ranged = account_ranged l e.b size right.1 (is_ranged l e h)

  written_ranged : notice_in_range (written e) ≡ true
  unfolding notice_in_range written
  written_ranged = rw (lt-ltb e.b 16 right.1) (notice_units e (is_right l e h) k)

  waiting_ranged : account_in_range (writer_waiting e writer) ≡ true
  unfolding writer_waiting
  waiting_ranged = with_notice_ranged writer (written e) writer_ranged written_ranged

  pub letter_verdict : verdict (notice_checks l e)
      ≡ letter_checks_number (writer.opened && other.opened) writer.today.notice.stands (meets l e) (exchange_number (writer_takes e) e.date.month writer other (record { 0 = e.w1 }))
  unfolding notice_checks verdict
  letter_verdict = ap (λ (n : ℕ). cond (not (writer.opened && other.opened)) 24 (cond writer.today.notice.stands 26 n)) (go (meets l e))
    where
      go : (t : Bool) → verdict (cond t (exchange_checks e writer other) ((not (account_in_range (writer_waiting e writer)), 29) ∷ []))
          ≡ cond t (exchange_number (writer_takes e) e.date.month writer other (record { 0 = e.w1 })) 0
      go true = exchange_verdict e writer other writer_ranged other_ranged
      go false = rw waiting_ranged

module _ (l : Ledger) (w o f q : ℕ) where
  abbrev pub letter : Entry
  letter = letter_on (told_date l.date) w o f q

  abbrev bytes : List ℕ
  bytes = letter_today l w o f q

  -- ---- posted

  as_notice : post_kind l letter ≡ post_notice l letter
  unfolding post_kind post_several kind_of lookup
  as_notice = refl

  pub letter_posted : q < 4294967296 → posted l bytes ≡ cond (eqb (admission l letter) 0) (post_notice l letter) (refused l (admission l letter))
  unfolding posted post_entry
  letter_posted h =
      rw (letter_back l w o f q h) (unfold letter_today in ap (λ (p : Posted). cond (eqb (admission l letter) 0) p (refused l (admission l letter))) as_notice)

  -- ---- the parties are right, so admitted

  pub letter_admitted : l.is_new ≡ true → f ≤ 1 → Parties l w o q → admission l letter ≡ 0
  unfolding admission entry_checks field_checks standing_checks kind_of lookup account_too_high unused_set words_in_range wrong_transfer retired wrong_day
  letter_admitted new fits t =
      no_fault _ _ _ _ _ _ _ _ _ _ _
      (rw new)
      (rw (told_today l t.ranged t.begun).0)
      (rw (lt-leb 16 w t.from, lt-leb 16 o t.to))
      (rw (le-ltb 1 f fits))
      (rw t.units)
      (rw (ne_eqb w o t.apart))
      (rw t.ranged)
      (rw t.begun)
      (rw (t.begun, (told_today l t.ranged t.begun).1))
      refl
      refl

  -- ---- admitted, so the parties are right

  pub letter_parties : admission l letter ≡ 0 → (account_at l w).opened ≡ true → (account_at l o).opened ≡ true → Parties l w o q
  unfolding kind_of lookup
  letter_parties h writes named =
      let right = is_right l letter h in
      record {
        from = a_fits letter right (omega arith);
        to = b_fits letter right (omega arith);
        apart = (notice_fits letter right refl).1;
        units = notice_units letter right refl;
        ranged = is_ranged l letter h;
        begun = is_begun l letter h (λ (k : 12 ≡ 1). omega arith);
        gives = writes;
        takes = named;
      }

-- ---- the first letter waits

-- where B has no notice, the ledger has no counterpart
pub none_meets : (l : Ledger) (e : Entry) → (account_at l e.b).today.notice.stands ≡ false → meets l e ≡ false
unfolding meets awaits
none_meets l e z = rw z

module _ (l : Ledger) (w o f q : ℕ) (size : length l.accounts ≡ 16) (fits : q < 4294967296) where
  abbrev e : Entry
  e = letter l w o f q

  pub waits : admission l e ≡ 0 → Parties l w o q → (account_at l w).today.notice.stands ≡ false → (account_at l o).today.notice.stands ≡ false
      → posted l (letter_today l w o f q) ≡ record { answer = plain 0; ledger = waiting l e }
  waits h t free other_free =
      let alone = none_meets l e other_free in
      letter_posted l w o f q fits
      ∙ rw h
      (unfold post_notice settle in
      rw (letter_verdict l e size h refl, t.gives, t.takes, free, alone))

  -- one that is accepted was admitted, and both are open
  was_admitted : (t : Bool) → eqb (admission l e) 0 ≡ t → (cond t (post_notice l e) (refused l (admission l e))).answer.number ≡ 0
      → (admission l e ≡ 0) × (verdict (notice_checks l e) ≡ 0)
  unfolding post_notice settle refused plain
  was_admitted true z h = (eqb-true (admission l e) 0 z, h)
  was_admitted false z h = absurd (eqb-false (admission l e) 0 z h)

  pub letter_only_if : (posted l (letter_today l w o f q)).answer.number ≡ 0 → (admission l e ≡ 0) × Parties l w o q
  unfolding notice_checks verdict
  letter_only_if z =
      let was = was_admitted (eqb (admission l e) 0) refl (sym (ap (λ (p : Posted). p.answer.number) (letter_posted l w o f q fits)) ∙ z) in
      let both = not-false ((account_at l w).opened && (account_at l o).opened) (first _ 24 _ refl was.1).0 in
      (was.0, letter_parties l w o f q was.0 (and_left _ _ both) (and_right _ _ both))

-- ---- the second letter meets it

-- the flag of one who gives, or takes
abbrev pub flag : Bool → ℕ
flag gives = cond gives 0 1

flag_fits : (g : Bool) → flag g ≤ 1
flag_fits true = omega arith
flag_fits false = omega arith

pub flag_takes : (d : Date) (w o q : ℕ) (g : Bool) → writer_takes (letter_on d w o (flag g) q) ≡ not g
unfolding writer_takes
flag_takes d w o q true = refl
flag_takes d w o q false = refl

awaited : (d : Date) (w o q : ℕ) (g : Bool) → awaits (written (letter_on d w o (flag g) q)) (letter_on d o w (flag (not g)) q) ≡ true
unfolding awaits written writer_takes
awaited d w o q true = rw (eq-eqb o o refl, eq-eqb q q refl)
awaited d w o q false = rw (eq-eqb o o refl, eq-eqb q q refl)

-- a notice has no part in a limit
by_side : (g : Bool) (m : Month) (a b : Account) (n : Notice) (q : Quantity) → a.opened ≡ true → b.opened ≡ true
    → exchange_number (not (not g)) m b (with_notice a n) q ≡ limit_number (stops m (cond g a b) (cond g b a) q)
unfolding with_notice with_today
by_side true m a b n q h k = rw (h, k)
by_side false m a b n q h k = rw (h, k)

-- whether a limit stops the gas of two letters, w's first; it is w who gives, or o
abbrev pub pair_stops : Ledger → ℕ → ℕ → ℕ → Bool → Bool
pair_stops l w o q g = stops l.date.month (cond g (account_at l w) (account_at l o)) (cond g (account_at l o) (account_at l w)) (record { 0 = q })

module _ (l : Ledger) (w o q : ℕ) (g : Bool) (size : length l.accounts ≡ 16) (new : l.is_new ≡ true) (fits : q < 4294967296) (t : Parties l w o q) where
  abbrev pub first_entry : Entry
  first_entry = letter l w o (flag g) q

  abbrev pub after : Ledger
  after = waiting l first_entry

  abbrev pub second_entry : Entry
  second_entry = letter after o w (flag (not g)) q

  first_admitted : admission l first_entry ≡ 0
  first_admitted = letter_admitted l w o (flag g) q new (flag_fits g) t

  same_day : letter_today after o w (flag (not g)) q ≡ letter_today l o w (flag (not g)) q
  unfolding letter_today waiting with_account
  same_day = refl

  pub after_writer : account_at after w ≡ writer_waiting first_entry (account_at l w)
  unfolding waiting
  after_writer = account_stored l w (writer_waiting first_entry (account_at l w)) size t.from w ∙ rw (eq-eqb w w refl)

  pub after_other : account_at after o ≡ account_at l o
  unfolding waiting
  after_other = account_stored l w (writer_waiting first_entry (account_at l w)) size t.from o ∙ rw (ne_eqb w o t.apart)

  after_size : length after.accounts ≡ 16
  unfolding waiting
  after_size = size_stored l w (writer_waiting first_entry (account_at l w)) size t.from

  after_ranged : in_range after ≡ true
  unfolding waiting
  after_ranged = ranged_stored l w (writer_waiting first_entry (account_at l w)) size t.from t.ranged (waiting_ranged l first_entry size first_admitted refl)

  after_begun : after.begun ≡ true
  unfolding waiting with_account
  after_begun = t.begun

  after_new : after.is_new ≡ true
  unfolding waiting with_account
  after_new = new

  after_date : after.date ≡ l.date
  unfolding waiting with_account
  after_date = refl

  still_open : (account_at after w).opened ≡ true
  unfolding writer_waiting with_notice with_today
  still_open = ap (λ (a : Account). a.opened) after_writer ∙ t.gives

  other_open : (account_at after o).opened ≡ true
  other_open = ap (λ (a : Account). a.opened) after_other ∙ t.takes

  after_parties : Parties after o w q
  after_parties =
      record {
        from = t.to;
        to = t.from;
        apart = λ p. t.apart (sym p);
        units = t.units;
        ranged = after_ranged;
        begun = after_begun;
        gives = other_open;
        takes = still_open;
      }

  second_admitted : admission after second_entry ≡ 0
  second_admitted = letter_admitted after o w (flag (not g)) q after_new (flag_fits (not g)) after_parties

  meets_first : meets after second_entry ≡ true
  unfolding meets writer_waiting with_notice with_today
  meets_first = ap (λ (a : Account). awaits a.today.notice second_entry) after_writer ∙ unfold waiting with_account in awaited (told_date l.date) w o q g

  abbrev earlier : Account
  earlier = account_at l w

  abbrev later : Account
  later = account_at l o

  abbrev units : Quantity
  units = record { 0 = q }

  second_exchange : exchange_number (writer_takes second_entry) second_entry.date.month (account_at after o) (account_at after w) units ≡ limit_number (pair_stops l w o q g)
  unfolding writer_waiting
  second_exchange =
      rw (flag_takes (told_date after.date) o w q (not g), after_writer, after_other, after_date)
      (by_side g l.date.month earlier later (written first_entry) units t.gives t.takes)

  second_verdict : later.today.notice.stands ≡ false → verdict (notice_checks after second_entry) ≡ limit_number (pair_stops l w o q g)
  second_verdict free =
      letter_verdict after second_entry after_size second_admitted refl
      ∙ rw (second_exchange, other_open, still_open, meets_first, after_other, free)

  pub second_answer : later.today.notice.stands ≡ false
      → posted after (letter_today l o w (flag (not g)) q) ≡ settle after (limit_number (pair_stops l w o q g)) (exchanged after second_entry)
  unfolding post_notice
  second_answer free =
      rw (← same_day)
      (letter_posted after o w (flag (not g)) q fits
      ∙ rw (second_admitted, second_verdict free, meets_first))

-- ---- a pair, whose writers have no notices

settled_number : (l : Ledger) (n : ℕ) (next : Ledger) → (settle l n next).answer.number ≡ n
unfolding settle plain
settled_number l n next = refl

limit_free : (t : Bool) → limit_number t ≡ 0 → t ≡ false
limit_free true h = absurd (omega arith)
limit_free false h = refl

module _ (l : Ledger) (w o q : ℕ) (g : Bool) (size : length l.accounts ≡ 16) (new : l.is_new ≡ true) (fits : q < 4294967296)
    (free : (account_at l w).today.notice.stands ≡ false) (other_free : (account_at l o).today.notice.stands ≡ false) where
  abbrev pub opening : Posted
  opening = posted l (letter_today l w o (flag g) q)

  abbrev pub answering : Posted
  answering = posted opening.ledger (letter_today l o w (flag (not g)) q)

  pub opening_is : Parties l w o q → opening ≡ record { answer = plain 0; ledger = waiting l (letter l w o (flag g) q) }
  opening_is t = waits l w o (flag g) q size fits (letter_admitted l w o (flag g) q new (flag_fits g) t) t free other_free

  pub answering_is : (t : Parties l w o q)
      → answering ≡ settle (after l w o q g size new fits t) (limit_number (pair_stops l w o q g)) (exchanged (after l w o q g size new fits t) (second_entry l w o q g size new fits t))
  answering_is t =
      ap (λ (p : Posted). posted p.ledger (letter_today l o w (flag (not g)) q)) (opening_is t) ∙ second_answer l w o q g size new fits t other_free

  pub opening_number : Parties l w o q → opening.answer.number ≡ 0
  opening_number t = ap (λ (p : Posted). p.answer.number) (opening_is t) ∙ unfold plain in refl

  pub answering_number : Parties l w o q → answering.answer.number ≡ limit_number (pair_stops l w o q g)
  answering_number t = ap (λ (p : Posted). p.answer.number) (answering_is t) ∙ settled_number _ _ _

  pub both_if : Parties l w o q → pair_stops l w o q g ≡ false → (opening.answer.number ≡ 0) × (answering.answer.number ≡ 0)
  both_if t z = (opening_number t, answering_number t ∙ ap limit_number z)

  pub only_if : opening.answer.number ≡ 0 → answering.answer.number ≡ 0 → Parties l w o q × (pair_stops l w o q g ≡ false)
  only_if z y =
      let t = (letter_only_if l w o (flag g) q size fits z).1 in
      (t, limit_free (pair_stops l w o q g) (sym (answering_number t) ∙ y))

-- ---- in either order

module _ (l : Ledger) (s j q : ℕ) (size : length l.accounts ≡ 16) (new : l.is_new ≡ true) (fits : q < 4294967296)
    (giver_free : (account_at l s).today.notice.stands ≡ false) (taker_free : (account_at l j).today.notice.stands ≡ false) where
  pub pair_if : (giver_first : Bool) → Transferable l s j q
      → ((first_posted giver_first l s j q).answer.number ≡ 0) × ((second_posted giver_first l s j q).answer.number ≡ 0)
  unfolding first_posted second_posted first_letter second_letter
  pair_if true t = both_if l s j q true size new fits giver_free taker_free t.parties (rw (t.kept, t.fits))
  pair_if false t = both_if l j s q false size new fits taker_free giver_free (other_way l s j q t.parties) (rw (t.kept, t.fits))

  transferable : Parties l s j q → stops l.date.month (account_at l s) (account_at l j) (record { 0 = q }) ≡ false → Transferable l s j q
  transferable t z = record { parties = t; kept = or_left _ _ z; fits = or_right _ _ z }

  pub pair_only_if : (giver_first : Bool) → (first_posted giver_first l s j q).answer.number ≡ 0 → (second_posted giver_first l s j q).answer.number ≡ 0
      → Transferable l s j q
  unfolding first_posted second_posted first_letter second_letter
  pair_only_if true z y = let both = only_if l s j q true size new fits giver_free taker_free z y in transferable both.0 both.1
  pair_only_if false z y =
      let both = only_if l j s q false size new fits taker_free giver_free z y in transferable (other_way l j s q both.0) both.1
