-- A pair of letters hands gas on as a TRANSFER does, from who gives to who takes: so it meets the same checks, and the two accounts can be stored in either order.
-- One that nothing answers meets none that could refuse it.
use Prim.Native.Nat.{ℕ, ◌<◌}
use mathlib.Core.Path.{◌≡◌, refl, sym, ap, ◌∙◌}
use mathlib.Core.Bool.{Bool, true, false, cond, not, ◌&&◌}
use mathlib.Core.List.{List, [], ◌∷◌}
use native.Mathlib.Omega.{arith}
use lib.Dec.{eqb}
use lib.ListN.{get_or, length, length-set, set}
use lib.Seq.{get_or-set_other, get_or-set_same, set-set, set_comm}
use Rattle.ledger.specs.Answers.{plain, refused, settle}
use Rattle.ledger.specs.Checks.{Check, verdict}
use Rattle.ledger.specs.Entries.{writer_takes}
use Rattle.ledger.specs.Gas.{giving, taking}
use Rattle.ledger.specs.Notice.{awaits, exchange_checks, exchanged, exchanging, meets, notice_checks, other_after, post_notice, waiting, writer_after, writer_waiting, written}
use Rattle.ledger.specs.Ranges.{account_in_range, notice_in_range}
use Rattle.ledger.specs.State.{account_at, ledger, no_notice, nobody, with_account, with_notice}
use Rattle.ledger.specs.Structs.{Account, Entry, Ledger, Posted, Quantity}
use Rattle.ledger.specs.Transfer.{handing_checks}
use Rattle.ledger.proofs.Bounded.{noticed_ranged}

-- the ledger without the notice of account j
abbrev cleared : Ledger → ℕ → Ledger
cleared m j = ledger m.begun m.touched m.is_new m.date m.terms m.holidays (set m.accounts j (with_notice (account_at m j) no_notice))

-- b's account as it was stored last, with no notice, whether it was stored after a's
gave : (xs : List Account) (a b : ℕ) (v w : Account) → b < length xs
    → set (set (set xs a v) b w) b (with_notice (get_or (set (set xs a v) b w) b nobody) no_notice) ≡ set (set xs a v) b (with_notice w no_notice)
gave xs a b v w h = rw (get_or-set_same (set xs a v) b w nobody (rw (length-set xs a v) h)) (set-set (set xs a v) b w (with_notice w no_notice))

-- or before it
took : (xs : List Account) (a b : ℕ) (v w : Account) → b < length xs → (a ≡ b → ⊥)
    → set (set (set xs b w) a v) b (with_notice (get_or (set (set xs b w) a v) b nobody) no_notice) ≡ set (set xs a v) b (with_notice w no_notice)
took xs a b v w h apart =
    rw (get_or-set_other (set xs b w) a b v nobody (λ z. apart (sym z)), get_or-set_same xs b w nobody h, set_comm xs b a w v (λ z. apart (sym z)))
    (set-set (set xs a v) b w (with_notice w no_notice))

module _ (l : Ledger) (e : Entry) where
  abbrev q : Quantity
  q = record { 0 = e.w1 }

  -- what is asked where account i gives and j takes, and what is stored
  abbrev asked : ℕ → ℕ → ℕ
  asked i j = verdict (handing_checks e.date.month (account_at l i) (account_at l j) q)

  abbrev handed : ℕ → ℕ → Ledger
  handed i j = with_account (with_account l i (giving e.date.month (account_at l i) q).account) j (taking e.date.month (account_at l j) q).account

  abbrev checked : ℕ
  checked = verdict (exchange_checks e (account_at l e.a) (account_at l e.b))

  same_checks : (t : Bool) → writer_takes e ≡ t → checked ≡ asked (cond t e.b e.a) (cond t e.a e.b)
  unfolding exchange_checks
  same_checks true h = rw h
  same_checks false h = rw h

  checked_is : (i j : ℕ) → i ≡ cond (writer_takes e) e.b e.a → j ≡ cond (writer_takes e) e.a e.b → checked ≡ asked i j
  checked_is i j from to = same_checks (writer_takes e) refl ∙ ap (λ (k : ℕ). asked k (cond (writer_takes e) e.a e.b)) (sym from) ∙ ap (λ (k : ℕ). asked i k) (sym to)

  -- what is stored once the other's notice goes
  whole : (t : Bool) → writer_takes e ≡ t → length l.accounts ≡ 16 → e.a < 16 → e.b < 16 → (e.a ≡ e.b → ⊥)
      → cleared (handed (cond t e.b e.a) (cond t e.a e.b)) e.b ≡ exchanged l e
  unfolding exchanged exchanging writer_after other_after with_account account_at
  whole true h n ha hb apart = rw (writer_after, other_after, exchanging, h) (ap (λ (xs : List Account). ledger l.begun true l.is_new l.date l.terms l.holidays xs) (took l.accounts e.a e.b _ _ (omega arith) apart))
  whole false h n ha hb apart = rw (writer_after, other_after, exchanging, h) (ap (λ (xs : List Account). ledger l.begun true l.is_new l.date l.terms l.holidays xs) (gave l.accounts e.a e.b _ _ (omega arith)))

  -- a refusal of the one is that of the other
  pub exchange_refused : (after : Ledger) (n i j : ℕ) → i ≡ cond (writer_takes e) e.b e.a → j ≡ cond (writer_takes e) e.a e.b → eqb n 0 ≡ false
      → refused after n ≡ settle l (asked i j) (handed i j) → refused after n ≡ settle l checked (exchanged l e)
  unfolding refused settle plain
  exchange_refused after n i j from to nonzero h =
      let number : asked i j ≡ n = sym (ap (λ (p : Posted). p.answer.number) h) in
      let kept : after ≡ l = ap (λ (p : Posted). p.ledger) h ∙ rw (number, nonzero) in
      rw (checked_is i j from to ∙ number, nonzero) (ap (λ (m : Ledger). refused m n) kept)

  -- once the gas is handed on, the other's notice goes
  pub exchange_stored : (after : Ledger) (x : Account) (i j : ℕ) → length l.accounts ≡ 16 → e.a < 16 → e.b < 16 → (e.a ≡ e.b → ⊥)
      → i ≡ cond (writer_takes e) e.b e.a → j ≡ cond (writer_takes e) e.a e.b
      → refused after 0 ≡ settle l (asked i j) (handed i j) → x ≡ with_notice (account_at after e.b) no_notice
      → refused (ledger after.begun after.touched after.is_new after.date after.terms after.holidays (set after.accounts e.b x)) 0 ≡ settle l checked (exchanged l e)
  unfolding refused settle plain
  exchange_stored after x i j n ha hb apart from to h is =
      let number : asked i j ≡ 0 = sym (ap (λ (p : Posted). p.answer.number) h) in
      let stored : after ≡ handed i j = ap (λ (p : Posted). p.ledger) h ∙ rw number in
      rw (checked_is i j from to ∙ number)
      (ap (λ (m : Ledger). refused m 0)
      (rw is (ap (λ (m : Ledger). cleared m e.b) (stored ∙ rw (from, to))
      ∙ whole (writer_takes e) refl n ha hb apart)))

  -- a letter that nothing answers is refused by none of its checks, and stands
  module _ (opened : (account_at l e.a).opened && (account_at l e.b).opened ≡ true) (silent : (account_at l e.a).today.notice.stands ≡ false)
      (alone : awaits (account_at l e.b).today.notice e ≡ false) (ranged : account_in_range (account_at l e.a) ≡ true) (fits : notice_in_range (written e) ≡ true) where
    meets_none : meets l e ≡ false
    unfolding meets
    meets_none = alone

    none_found : (open' stands met fitting : Bool) (cs : List Check) → open' ≡ true → stands ≡ false → met ≡ false → fitting ≡ true
        → verdict ((not open', 24) ∷ (stands, 26) ∷ cond met cs ((not fitting, 29) ∷ [])) ≡ 0
    unfolding verdict
    none_found open' stands met fitting cs a b c d = rw (a, b, c, d)

    number : verdict (notice_checks l e) ≡ 0
    unfolding notice_checks writer_waiting
    number = none_found _ _ _ _ _ opened silent meets_none (noticed_ranged (account_at l e.a) (written e) ranged fits)

    pub letter_stands : (x : Account) → x ≡ with_notice (account_at l e.a) (written e)
        → refused (ledger l.begun true l.is_new l.date l.terms l.holidays (set l.accounts e.a x)) 0 ≡ post_notice l e
    unfolding post_notice waiting writer_waiting with_account settle refused plain
    letter_stands x is = rw (number, meets_none, is)
