-- Old or new is asked in three places only, for the kinds that there are, for a TRANSFER that comes too late and for the forfeit: every other rule makes
-- the same of both.
use Prim.Native.Nat.{ℕ}
use mathlib.Core.Path.{◌≡◌, refl, sym, ap, ◌∙◌}
use mathlib.Core.Bool.{Bool, true, false, cond, not, ◌&&◌}
use mathlib.Core.List.{List, [], ◌∷◌, map}
use mathlib.Core.Logic.{inl, inr}
use native.Mathlib.Omega.{arith}
use lib.Dec.{eqb, leb}
use lib.ListN.{length}
use borrow.Author.Tests.{eq-eqb, eqb-false, eqb-true, ne_eqb}
use Rattle.tariff.specs.Amounts.{within}
use Rattle.tariff.specs.Dates.{last_of_month}
use Rattle.tariff.specs.Holidays.{on_measurement_day}
use Rattle.tariff.proofs.Bools.{either, parts}
use Rattle.tariff.proofs.Forfeits.{forfeit_stays}
use Rattle.ledger.specs.Structs.{Account, Change, Closed, Entry, Uses, Ledger, Posted, Terms}
use Rattle.ledger.specs.Checks.{Check, verdict}
use Rattle.ledger.specs.Kinds.{kind_of, lookup, version}
use Rattle.ledger.specs.Entries.{day_named, entry_of, prices_of}
use Rattle.ledger.specs.Forms.{entry_checks}
use Rattle.ledger.specs.State.{account_at, held_in, with_account, with_bank, with_capacity, with_carry, with_excuse, with_holidays, with_measure, with_month}
use Rattle.ledger.specs.Ranges.{account_in_range, every_account, in_range}
use Rattle.ledger.specs.Answers.{plain, refused, settle}
use Rattle.ledger.specs.Terms.{post_terms, terms_checks, terms_next}
use Rattle.ledger.specs.Transfer.{giver, post_transfer, receiver, transfer_checks}
use Rattle.ledger.specs.Days.{retired}
use Rattle.ledger.specs.Closing.{after_closing, after_day, after_month, closing_of, day_closing, excess_at, forfeit_at, left_alone, month_closing, month_end, next_capacity, ready, report_of, stays_in_range}
use Rattle.ledger.specs.Closings.{closed, closing_checks, post_closing}
use Rattle.ledger.specs.Holiday.{holding, holiday_checks, post_holiday}
use Rattle.ledger.specs.Notice.{exchanged, meets, notice_checks, post_notice, waiting}
use Rattle.ledger.specs.Posting.{admission, change_of, post_entry, post_kind, post_several, posted, standing_checks, stored}
use Rattle.ledger.specs.OldAndNew.{AcceptsAlike, AlikeOtherwise, OnlyNew, ReportsAlike, SameButForfeit, told}
use Rattle.ledger.proofs.KindCases.{done, each, ◌then◌}
use Rattle.ledger.proofs.Lists.{with_accounts}
use Rattle.ledger.proofs.OldLedgers.{month_reported, none_named}

-- ---- the kinds that there are

-- but for those that only new ledgers have, a number is a kind of both or of neither
same_since : (kind : ℕ) → (OnlyNew kind → ⊥) → leb (kind_of kind).since 2 ≡ leb (kind_of kind).since 1
unfolding kind_of
same_since kind =
    each (λ (k : Uses). (OnlyNew kind → ⊥) → leb k.since 2 ≡ leb k.since 1) kind _
    ((λ _ _. refl) then (λ _ _. refl) then (λ _ _. refl) then (λ _ _. refl) then (λ _ _. refl) then (λ _ _. refl) then (λ _ _. refl) then (λ _ _. refl) then (λ _ _. refl)
    then (λ is d. absurd (d (inl is)))
    then (λ is d. absurd (d (inr (inl is))))
    then (λ is d. absurd (d (inr (inr is))))
    then done)
    (λ _. refl)

nine_is_old : (kind : ℕ) → kind ≡ 9 → OnlyNew kind → ⊥
nine_is_old kind nine (inl ten) = omega (arith, nine, ten)
nine_is_old kind nine (inr (inl eleven)) = omega (arith, nine, eleven)
nine_is_old kind nine (inr (inr twelve)) = omega (arith, nine, twelve)

same_version : (new old : Bool) (kind : ℕ) → (OnlyNew kind → ⊥) → leb (kind_of kind).since (version new) ≡ leb (kind_of kind).since (version old)
same_version true true kind d = refl
same_version true false kind d = same_since kind d
same_version false true kind d = sym (same_since kind d)
same_version false false kind d = refl

-- an old ledger retires none
old_transfers : (e : Entry) → retired false e ≡ false
unfolding retired
old_transfers e = none (eqb e.kind 4)
  where
    none : (t : Bool) → t && false ≡ false
    none true = refl
    none false = refl

-- a posting that a new ledger does not retire, none does
same_retired : (new old : Bool) (e : Entry) → retired true e ≡ false → retired new e ≡ retired old e
same_retired new old e h = none new ∙ sym (none old)
  where
    none : (n : Bool) → retired n e ≡ false
    none true = h
    none false = old_transfers e

-- no closing is retired
nine_stays : (e : Entry) → e.kind ≡ 9 → retired true e ≡ false
unfolding retired
nine_stays e nine = rw (ne_eqb e.kind 4 (λ four. omega (arith, four, nine)))

-- ---- the closing of an account

module _ (new old : Bool) (t : Terms) (e : Entry) (a : Account) where
  abbrev day : Account
  day = after_day e.date a

  abbrev month : Bool → Closed
  month n = month_closing n e.date t (prices_of e) a

  -- what holds of any closing and itself, and of the two of a month
  same : (R : Closed → Closed → Type 0) → ((c : Closed) → R c c) → R (month new) (month old) → R (closing_of new t e a) (closing_of old t e a)
  unfolding closing_of lookup
  same R r m = go a.opened (eqb e.kind 8) (eqb e.kind 9)
    where
      go : (o d k : Bool)
          → R (cond o (cond d (day_closing e.date a) (cond k (month new) (left_alone a))) (left_alone a)) (cond o (cond d (day_closing e.date a) (cond k (month old) (left_alone a))) (left_alone a))
      go true true k = r (day_closing e.date a)
      go true false true = m
      go true false false = r (left_alone a)
      go false d k = r (left_alone a)

  -- what is reported, but for the forfeit
  same_report : SameButForfeit (report_of new t e a) (report_of old t e a)
  unfolding report_of month_closing
  same_report =
      same (λ c d. SameButForfeit c.report d.report) (λ c. record { mask = refl; cash = refl; bill = refl })
      (record { mask = refl; cash = refl; bill = refl })

  -- whether the account stays in range: no forfeit takes a bank out of it
  bank_ranged : account_in_range day ≡ true → within 1000000000 100000000000 day.bank ≡ true
  unfolding account_in_range
  bank_ranged h = search parts depth 10

  same_range : account_in_range day ≡ true → account_in_range (month new).account ≡ account_in_range (month old).account
  unfolding account_in_range month_closing after_month month_end forfeit_at excess_at with_excuse with_carry with_month with_capacity with_measure with_bank
  same_range h =
      let left : (n : Bool) → _ = λ n. forfeit_stays 1000000000 100000000000 n a.today.confiscation e.date.month (next_capacity t day).bcq day.bank (bank_ranged h) in
      rw (left new, left old)

  abbrev stays : Closed → Bool
  stays c = account_in_range c.day && account_in_range c.account

  same_month_lem : stays (month new) ≡ stays (month old)
  unfolding month_closing
  same_month_lem = go (account_in_range day) refl
    where
      go : (t : Bool) → account_in_range day ≡ t → t && account_in_range (month new).account ≡ t && account_in_range (month old).account
      go true h = same_range h
      go false h = refl

  same_stays : stays_in_range new t e a ≡ stays_in_range old t e a
  unfolding stays_in_range
  same_stays = same (λ c d. stays c ≡ stays d) (λ c. refl) same_month_lem

-- ---- the closing of a day

module _ (new old : Bool) (t : Terms) (e : Entry) (d : e.kind ≡ 9 → ⊥) where
  same_closing : closing_of new t e ≡ closing_of old t e
  unfolding closing_of lookup
  same_closing = λ i a. one a i
    where
      one : (a : Account) → closing_of new t e a ≡ closing_of old t e a
      one a = cc (ne_eqb e.kind 9 d)

  same_after : after_closing new t e ≡ after_closing old t e
  unfolding after_closing
  same_after = λ i a. (same_closing i a).account

  same_reports : report_of new t e ≡ report_of old t e
  unfolding report_of
  same_reports = λ i a. (same_closing i a).report

-- ---- a posting to both

module _ (l : Ledger) (new : Bool) where
  -- what is answered of l, of the ledger that is told otherwise
  abbrev twin : Posted → Posted
  twin p = record { answer = p.answer; ledger = told new p.ledger }

  choose : (t : Bool) (x y : Posted) {u v : Posted} → u ≡ twin x → v ≡ twin y → cond t u v ≡ twin (cond t x y)
  choose true x y p q = p
  choose false x y p q = q

  told_cond : (t : Bool) (x y : Ledger) → cond t (told new x) (told new y) ≡ told new (cond t x y)
  told_cond true x y = refl
  told_cond false x y = refl

  refused_twin : (n : ℕ) → refused (told new l) n ≡ twin (refused l n)
  unfolding refused
  refused_twin n = refl

  settled_twin : (n : ℕ) (next : Ledger) → settle (told new l) n (told new next) ≡ twin (settle l n next)
  unfolding settle
  settled_twin n next = ap (λ (m : Ledger). record { answer = plain n; ledger = m }) (told_cond (eqb n 0) next l)

  admission_twin : (e : Entry) → (OnlyNew e.kind → ⊥) → retired true e ≡ false → admission (told new l) e ≡ admission l e
  unfolding admission entry_checks standing_checks in_range told held_in
  admission_twin e c r = rw (same_version new l.is_new e.kind c, same_retired new l.is_new e r)

  module _ (e : Entry) where
    stored_twin : (c : Change) → stored (told new l) e.a c ≡ twin (stored l e.a c)
    unfolding stored with_account told
    stored_twin c = settled_twin c.number (with_account l e.a c.account)

    terms_twin : post_terms (told new l) e ≡ twin (post_terms l e)
    unfolding post_terms terms_checks terms_next in_range told
    terms_twin = settled_twin (verdict (terms_checks l e)) (terms_next l e)

    transfer_twin : post_transfer (told new l) e ≡ twin (post_transfer l e)
    unfolding post_transfer transfer_checks giver receiver account_at with_account told
    transfer_twin =
        settled_twin (verdict (transfer_checks l e)) (with_account (with_account l e.a (giver l e).account) e.b (receiver l e).account)

    holiday_twin : post_holiday (told new l) e ≡ twin (post_holiday l e)
    unfolding post_holiday holiday_checks holding with_holidays held_in told
    holiday_twin = settled_twin (verdict (holiday_checks l (day_named e))) (holding l (day_named e))

    notice_twin : post_notice (told new l) e ≡ twin (post_notice l e)
    unfolding post_notice notice_checks meets exchanged waiting account_at with_account told
    notice_twin =
        ap (λ (next : Ledger). settle (told new l) (verdict (notice_checks l e)) next) (told_cond (meets l e) (exchanged l e) (waiting l e))
        ∙ settled_twin (verdict (notice_checks l e)) (cond (meets l e) (exchanged l e) (waiting l e))

    checks_twin : closing_checks (told new l) e ≡ closing_checks l e
    unfolding closing_checks told held_in
    checks_twin =
        ap (λ (f : Account → Bool). (not (every_account (ready (last_of_month e.date) (on_measurement_day (held_in l) e.date)) l.accounts), 27) ∷ (not (every_account f l.accounts), 29) ∷ [])
        (λ i a. same_stays new l.is_new l.terms e a i)

    module _ (d : e.kind ≡ 9 → ⊥) where
      closed_twin : closed (told new l) e ≡ twin (closed l e)
      unfolding closed told
      closed_twin =
          let reports = same_reports new l.is_new l.terms e d in
          let accounts = same_after new l.is_new l.terms e d in
          λ i. record {
            answer = record { number = 0; reports = map (reports i) l.accounts };
            ledger = told new (with_accounts (closed l e).ledger (map (accounts i) l.accounts));
          }

      closing_twin : post_closing (told new l) e ≡ twin (post_closing l e)
      unfolding post_closing
      closing_twin =
          ap (λ (cs : List Check). cond (eqb (verdict cs) 0) (closed (told new l) e) (refused (told new l) (verdict cs))) checks_twin
          ∙ choose (eqb (verdict (closing_checks l e)) 0) (closed l e) (refused l (verdict (closing_checks l e))) closed_twin (refused_twin (verdict (closing_checks l e)))

      several_twin : post_several (told new l) e ≡ twin (post_several l e)
      unfolding post_several lookup
      several_twin =
          choose (eqb e.kind 1) (post_terms l e) _ terms_twin
          (choose (eqb e.kind 4) (post_transfer l e) _ transfer_twin
          (choose (eqb e.kind 8) (post_closing l e) _ closing_twin
          (choose (eqb e.kind 9) (post_closing l e) _ closing_twin
          (choose (eqb e.kind 11) (post_holiday l e) _ holiday_twin (choose (eqb e.kind 12) (post_notice l e) (refused l 2) notice_twin (refused_twin 2))))))

      kind_twin : post_kind (told new l) e ≡ twin (post_kind l e)
      unfolding post_kind account_at told
      kind_twin = choose (eqb (kind_of e.kind).accounts 1) (stored l e.a (change_of l.terms (account_at l e.a) e)) (post_several l e) (stored_twin (change_of l.terms (account_at l e.a) e)) several_twin

      entry_twin : (OnlyNew e.kind → ⊥) → retired true e ≡ false → post_entry (told new l) e ≡ twin (post_entry l e)
      unfolding post_entry
      entry_twin c r =
          ap (λ (n : ℕ). cond (eqb n 0) (post_kind (told new l) e) (refused (told new l) n)) (admission_twin e c r)
          ∙ choose (eqb (admission l e) 0) (post_kind l e) (refused l (admission l e)) kind_twin (refused_twin (admission l e))

pub alike_otherwise : AlikeOtherwise
unfolding posted
alike_otherwise l new b d c r =
    choose l new (eqb (length b) 32) (post_entry l (entry_of b)) (refused l 1) (entry_twin l new (entry_of b) d c r) (refused_twin l new 1)

-- ---- the number of a month's closing

refused_number : (l : Ledger) (n : ℕ) → (refused l n).answer.number ≡ n
unfolding refused plain
refused_number l n = refl

module _ (l : Ledger) (e : Entry) (nine : e.kind ≡ 9) where
  abbrev number : ℕ
  number = verdict (closing_checks l e)

  closing_number : (post_closing l e).answer.number ≡ cond (eqb number 0) 0 number
  unfolding post_closing closed refused plain
  closing_number = either (λ (p : Posted). p.answer.number ≡ cond (eqb number 0) 0 number) (eqb number 0) (closed l e) (refused l number) (λ z. rw z) (λ z. rw z)

  kind_number : (post_kind l e).answer.number ≡ cond (eqb number 0) 0 number
  unfolding post_kind post_several lookup
  kind_number =
      rw (none_named l e nine, ne_eqb e.kind 1 (λ z. omega (arith, z, nine)), ne_eqb e.kind 4 (λ z. omega (arith, z, nine)), ne_eqb e.kind 8 (λ z. omega (arith, z, nine)), eq-eqb e.kind 9 nine)
      closing_number

module _ (l : Ledger) (new : Bool) (b : List ℕ) (nine : (entry_of b).kind ≡ 9) where
  abbrev e : Entry
  e = entry_of b

  kind_alike : (post_kind (told new l) e).answer.number ≡ (post_kind l e).answer.number
  kind_alike = kind_number (told new l) e nine ∙ ap (λ (cs : List Check). cond (eqb (verdict cs) 0) 0 (verdict cs)) (checks_twin l new e) ∙ sym (kind_number l e nine)

  entry_alike : (post_entry (told new l) e).answer.number ≡ (post_entry l e).answer.number
  unfolding post_entry
  entry_alike =
      ap (λ (n : ℕ). (cond (eqb n 0) (post_kind (told new l) e) (refused (told new l) n)).answer.number) (admission_twin l new e (nine_is_old e.kind nine) (nine_stays e nine))
      ∙ go (eqb (admission l e) 0) (admission l e)
    where
      go : (t : Bool) (n : ℕ) → (cond t (post_kind (told new l) e) (refused (told new l) n)).answer.number ≡ (cond t (post_kind l e) (refused l n)).answer.number
      go true n = kind_alike
      go false n = refused_number (told new l) n ∙ sym (refused_number l n)

  month_alike : (posted (told new l) b).answer.number ≡ (posted l b).answer.number
  unfolding posted
  month_alike = go (eqb (length b) 32)
    where
      go : (t : Bool) → (cond t (post_entry (told new l) e) (refused (told new l) 1)).answer.number ≡ (cond t (post_entry l e) (refused l 1)).answer.number
      go true = entry_alike
      go false = refused_number (told new l) 1 ∙ sym (refused_number l 1)

pub accepts_alike : AcceptsAlike
accepts_alike l new b c r = go (eqb (entry_of b).kind 9) refl
  where
    go : (t : Bool) → eqb (entry_of b).kind 9 ≡ t → (posted (told new l) b).answer.number ≡ (posted l b).answer.number
    go true z = month_alike l new b (eqb-true (entry_of b).kind 9 z)
    go false z = ap (λ (p : Posted). p.answer.number) (alike_otherwise l new b (eqb-false (entry_of b).kind 9 z) c r)

pub reports_alike : ReportsAlike
unfolding told account_at
reports_alike l new b i z nine =
    let y : (posted (told new l) b).answer.number ≡ 0 = accepts_alike l new b (nine_is_old (entry_of b).kind nine) (nine_stays (entry_of b) nine) ∙ z in
    rw (month_reported l b i z nine, month_reported (told new l) b i y nine) (same_report l.is_new new l.terms (entry_of b) (account_at l i))
