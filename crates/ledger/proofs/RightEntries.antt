-- An entry's number is 0 only where each of its checks found nothing wrong: what that tells, kind by kind.
use Prim.Native.Nat.{ℕ, ◌≤◌, ◌<◌}
use mathlib.Core.Path.{◌≡◌, refl}
use mathlib.Core.Bool.{true, false, not, ◌&&◌, ◌||◌}
use lib.Dec.{leb, eqb, ltb}
use borrow.Author.Tests.{ltb-false, leb-true, leb-false, le-leb, eqb-false, eq-eqb, not-false}
use Rattle.tariff.specs.Dates.{real}
use Rattle.tariff.specs.Terms.{terms_in_range}
use Rattle.tariff.specs.Bill.{prices_in_range}
use Rattle.tariff.proofs.Bools.{and_left, and_right, or_left, or_right, parts}
use Rattle.ledger.specs.Kinds as kinds
use Rattle.ledger.specs.Kinds.{lookup, kind_of}
use Rattle.ledger.specs.Entries.{terms_of, prices_of}
use Rattle.ledger.specs.Forms.{account_too_high, unused_set, some_units, words_in_range, wrong_transfer, field_checks, field_number}
use Rattle.ledger.specs.Structs.{Entry}
use Rattle.ledger.proofs.Verdicts.{clear}

module _ (e : Entry) (h : field_number e ≡ 0) where
  pub is_real_lem : real e.date ≡ true
  unfolding field_number field_checks
  is_real_lem = not-false (real e.date) (clear _ refl h 0)

  accounts_fit : account_too_high (kind_of e.kind) e ≡ false
  unfolding field_number field_checks
  accounts_fit = clear _ refl h 1

  pub flags_fit : e.flags ≤ (kind_of e.kind).flags
  unfolding field_number field_checks unused_set
  flags_fit =
      let u : (ltb (kind_of e.kind).accounts 1 && not (eqb e.a 0)) || (ltb (kind_of e.kind).accounts 2 && not (eqb e.b 0)) || ltb (kind_of e.kind).flags e.flags
      || (ltb (kind_of e.kind).words 1 && not (eqb e.w1 0)) || (ltb (kind_of e.kind).words 2 && not (eqb e.w2 0)) || (ltb (kind_of e.kind).words 3 && not (eqb e.w3 0))
      || (ltb (kind_of e.kind).words 4 && not (eqb e.w4 0)) || (ltb (kind_of e.kind).words 5 && not (eqb e.w5 0)) || (ltb (kind_of e.kind).words 6 && not (eqb e.w6 0)) ≡ false = clear _ refl h 2 in
      ltb-false (kind_of e.kind).flags e.flags (search (or_left, or_right) depth 9)

  words_fit : words_in_range e ≡ true
  unfolding field_number field_checks
  words_fit = not-false (words_in_range e) (clear _ refl h 3)

  right_transfer : wrong_transfer e ≡ false
  unfolding field_number field_checks
  right_transfer = clear _ refl h 4

  pub a_fits : 1 ≤ (kind_of e.kind).accounts → e.a < 16
  unfolding account_too_high
  a_fits p = leb-false 16 e.a (rw (le-leb 1 (kind_of e.kind).accounts p) at (or_left (leb 1 (kind_of e.kind).accounts && leb 16 e.a) (leb 2 (kind_of e.kind).accounts && leb 16 e.b) accounts_fit))

  pub b_fits : 2 ≤ (kind_of e.kind).accounts → e.b < 16
  unfolding account_too_high
  b_fits p = leb-false 16 e.b (rw (le-leb 2 (kind_of e.kind).accounts p) at (or_right (leb 1 (kind_of e.kind).accounts && leb 16 e.a) (leb 2 (kind_of e.kind).accounts && leb 16 e.b) accounts_fit))

  -- ---- the words, kind by kind

  pub terms_fit : e.kind ≡ kinds.TERMS → terms_in_range (terms_of e) ≡ true
  unfolding words_in_range lookup terms_of
  terms_fit k = rw k at words_fit

  pub enrol_fits : e.kind ≡ kinds.ENROL → (e.w1 ≤ 300000) × (e.w2 ≤ 1000000000)
  unfolding words_in_range lookup
  enrol_fits k =
      let t : leb e.w1 300000 && leb e.w2 1000000000 ≡ true = rw k at words_fit in
      (leb-true e.w1 300000 (search parts), leb-true e.w2 1000000000 (search parts))

  pub deliver_fits : e.kind ≡ kinds.DELIVER → (e.w1 ≤ 1000000000) × (e.w2 ≤ 1000000000)
  unfolding words_in_range lookup
  deliver_fits k =
      let t : leb e.w1 1000000000 && leb e.w2 1000000000 ≡ true = rw k at words_fit in
      (leb-true e.w1 1000000000 (search parts), leb-true e.w2 1000000000 (search parts))

  units_fit : (w : ℕ) → some_units w ≡ true → w ≤ 1000000000
  unfolding some_units
  units_fit w t = leb-true w 1000000000 (and_right (leb 1 w) (leb w 1000000000) t)

  pub transfer_units : e.kind ≡ kinds.TRANSFER → some_units e.w1 ≡ true
  unfolding words_in_range lookup
  transfer_units k = and_left (some_units e.w1) (some_units e.w2) (rw k at words_fit)

  pub transfer_fits : e.kind ≡ kinds.TRANSFER → (e.w1 ≤ 1000000000) × (e.a ≡ e.b → ⊥)
  unfolding wrong_transfer
  transfer_fits k = (
    units_fit e.w1 (transfer_units k),
    eqb-false e.a e.b (or_left (eqb e.a e.b) (not (eqb e.w1 e.w2)) (or_left (eqb e.a e.b || not (eqb e.w1 e.w2)) (eqb e.kind 12 && eqb e.a e.b) (rw (eq-eqb e.kind 4 k) at right_transfer))),
  )

  pub notice_units : e.kind ≡ kinds.NOTICE → some_units e.w1 ≡ true
  unfolding words_in_range lookup
  notice_units k = rw k at words_fit

  pub notice_fits : e.kind ≡ kinds.NOTICE → (e.w1 ≤ 1000000000) × (e.a ≡ e.b → ⊥)
  unfolding wrong_transfer
  notice_fits k = (
    units_fit e.w1 (notice_units k),
    eqb-false e.a e.b (or_right (eqb e.kind 4 && (eqb e.a e.b || not (eqb e.w1 e.w2))) (eqb e.a e.b) (rw (eq-eqb e.kind 12 k) at right_transfer)),
  )

  pub trade_fits : e.kind ≡ kinds.TRADE → e.w1 ≤ 1000000000
  unfolding words_in_range lookup
  trade_fits k = units_fit e.w1 (rw k at words_fit)

  pub prices_fit : e.kind ≡ kinds.CLOSE_MONTH → prices_in_range (prices_of e) ≡ true
  unfolding words_in_range lookup prices_of
  prices_fit k = rw k at words_fit
