-- Each kind does what its rule says and nothing more: its ledger differs from the one before in the accounts that it names, and their banks by what it adds.
use Prim.Native.Nat.{ℕ, ◌<◌}
use mathlib.Core.Path.{◌≡◌, refl, sym, ap, ◌∙◌}
use mathlib.Core.Bool.{Bool, true, false, cond, not, ◌&&◌, true≢false}
use mathlib.Core.List.{map}
use native.Mathlib.Omega.{arith}
use lib.Dec.{eqb}
use lib.IntN.{ℤ, pos, neg_ℤ, ◌+ℤ◌, +ℤ_idr, +ℤ_idl}
use lib.ListN.{get_or, length-map, get_or-map}
use borrow.Author.Tests.{eqb-true, eqb-false, not-false}
use Rattle.tariff.specs.Amounts.{sum}
use Rattle.tariff.specs.Terms.{capacity_of}
use Rattle.ledger.specs.Structs.{Account, Capacity, Change, Entry, Ledger, Terms}
use Rattle.tariff.proofs.Bools.{and_left, and_right, either}
use Rattle.tariff.proofs.Laws.{sum_value, amount_value}
use Rattle.ledger.specs.Kinds as kinds
use Rattle.ledger.specs.Kinds.{lookup, kind_of}
use Rattle.ledger.specs.Checks.{verdict}
use Rattle.ledger.specs.Entries.{terms_of, company_sells, day_named}
use Rattle.ledger.specs.State.{nobody, no_today, account_at, as_open, with_holidays, with_bank, with_month, with_totals, with_today, with_measure, with_capacity, with_account}
use Rattle.ledger.specs.Ranges.{account_in_range, in_range}
use Rattle.ledger.specs.Answers.{plain}
use Rattle.ledger.specs.Terms.{reworked, terms_next, terms_checks}
use Rattle.ledger.specs.Enrol.{new_account, enrolled, enrol_checks}
use Rattle.ledger.specs.Deliver.{delivered, delivered_today, amount_under, after_delivery, deliver_checks}
use Rattle.ledger.specs.Transfer.{giver, receiver, handing_checks, transfer_checks}
use Rattle.ledger.specs.Trade.{booked, traded}
use Rattle.ledger.specs.Measure.{remeasured, after_measure, measure_checks}
use Rattle.ledger.specs.Usage.{metered, after_usage, usage_checks}
use Rattle.ledger.specs.Confiscated.{after_confiscation, confiscated_today, confiscation_checks}
use Rattle.ledger.specs.Holiday.{holding, holiday_checks}
use Rattle.ledger.specs.Posting.{admission}
use Rattle.ledger.specs.Panel.{open_bank, bank_of}
use Rattle.ledger.proofs.Verdicts.{first, clear}
use Rattle.ledger.proofs.NamedDays.{holding_ranged}
use Rattle.ledger.proofs.RightEntries.{a_fits, b_fits, transfer_fits}
use Rattle.ledger.proofs.Admissions.{is_begun, is_right}
use Rattle.ledger.proofs.ClosedAccounts.{open_owed, open_days, grows}
use Rattle.ledger.proofs.OneStep.{Sound, Taken, account_stored, gain_at, keeps_letters, leaves, lettered, pair_stayed, pairs, same_days, same_debt, stores, untouched}
use Rattle.ledger.proofs.Moving.{Moved, gives, takes}

not_chosen : {A : Type 0} (t : Bool) (x y : A) → t ≡ false → cond t x y ≡ y
not_chosen true x y h = absurd (true≢false h)
not_chosen false x y h = refl

pub either_way : {A : Type 0} (t : Bool) (x : A) → cond t x x ≡ x
either_way true x = refl
either_way false x = refl

pub of_choice : {A B : Type 0} (f : A → B) (t : Bool) (x y : A) → f (cond t x y) ≡ cond t (f x) (f y)
of_choice f true x y = refl
of_choice f false x y = refl

-- ---- TERMS leaves what accounts hold

rework_keeps : {A : Type 0} (f : Account → A) (t : Terms) (a : Account) → ((c : Capacity) (a : Account) → f (with_capacity a c) ≡ f a) → f (reworked t a) ≡ f a
unfolding reworked
rework_keeps f t a g = either (λ (c : Account). f c ≡ f a) a.opened (with_capacity a (capacity_of t a.step.k)) a (λ _. g (capacity_of t a.step.k) a) (λ _. refl)

module _ (l : Ledger) (e : Entry) where
  nobody_reworked : reworked (terms_of e) nobody ≡ nobody
  unfolding reworked nobody
  nobody_reworked = refl

  next_rate : (terms_next l e).terms.retainage ≡ e.w4
  unfolding terms_next terms_of
  next_rate = refl

  pub account_reworked : (i : ℕ) → account_at (terms_next l e) i ≡ reworked (terms_of e) (account_at l i)
  unfolding account_at terms_next
  account_reworked i =
      ap (λ (d : Account). get_or (map (reworked (terms_of e)) l.accounts) i d) (sym nobody_reworked)
      ∙ get_or-map (reworked (terms_of e)) l.accounts i nobody

-- ---- what each kind does, once it is accepted

module _ (l : Ledger) (e : Entry) (s : Sound l) (h : admission l e ≡ 0) where
  abbrev old : Account
  old = account_at l e.a

  -- every kind but TERMS finds the ledger begun
  begun_before : (n : ℕ) → e.kind ≡ n → (n ≡ 1 → ⊥) → l.begun ≡ true
  begun_before n is d = is_begun l e h (λ z. d (sym is ∙ z))

  pub takes_terms : e.kind ≡ kinds.TERMS → verdict (terms_checks l e) ≡ 0 → Taken l e (plain 0) (terms_next l e)
  unfolding bank_of
  takes_terms is o =
      record {
        sound =
            record {
              sized = unfold terms_next in (length-map l.accounts (reworked (terms_of e)) ∙ s.sized);
              ranged = unfold terms_checks in not-false (in_range (terms_next l e)) (clear _ refl o 0);
            };
        banks = λ i. reworks open_bank (λ c a. unfold with_capacity open_bank in refl) i ∙ sym (ap (λ (m : ℕ). open_bank (account_at l i) +ℤ gain_at m l e (plain 0) i) is ∙ +ℤ_idr (open_bank (account_at l i)));
        debts = λ i. reworks open_owed (λ c a. unfold with_capacity in refl) i ∙ same_debt e 1 is refl i (open_owed (account_at l i));
        days = λ i. reworks open_days (λ c a. unfold with_capacity in refl) i ∙ same_days e 1 is refl i (open_days (account_at l i));
        retainage = next_rate l e ∙ sym (ap (λ (m : ℕ). cond (eqb m 1) e.w4 l.terms.retainage) is);
        started = λ z. absurd (eqb-false e.kind 1 z is);
        parties = λ z. absurd (omega (arith, z, is));
        letters =
            lettered e 1 is refl l (terms_next l e)
            (untouched 1 l e (terms_next l e) refl refl refl (reworks (λ (a : Account). a.today.notice) (λ c a. unfold with_capacity in refl)) (reworks (λ (a : Account). a.opened) (λ c a. unfold with_capacity in refl)));
      }
    where
      reworks : {A : Type 0} (f : Account → A) → ((c : Capacity) (a : Account) → f (with_capacity a c) ≡ f a) → (i : ℕ) → f (account_at (terms_next l e) i) ≡ f (account_at l i)
      reworks f g i = ap f (account_reworked l e i) ∙ rework_keeps f (terms_of e) (account_at l i) g

  pub takes_enrol : e.a < 16 → e.kind ≡ kinds.ENROL → verdict (enrol_checks l.terms old e) ≡ 0 → Taken l e (plain 0) (with_account l e.a (enrolled l.terms e))
  unfolding enrol_checks enrolled new_account as_open with_bank with_measure with_capacity nobody no_today open_bank
  takes_enrol i is o =
      let shut : old.opened ≡ false = clear _ refl o 0 in
      let anew : (j : ℕ) → account_at (with_account l e.a (enrolled l.terms e)) j ≡ cond (eqb e.a j) (enrolled l.terms e) (account_at l j) = account_stored l e.a (enrolled l.terms e) s.sized i in
      stores e 2 is refl l (enrolled l.terms e) (pos e.w2) refl refl s (begun_before 2 is (λ z. omega (arith, z))) i
      (not-false (account_in_range (enrolled l.terms e)) (clear _ refl o 3))
      (amount_value (record { 0 = e.w2 }) ∙ sym (ap (λ (z : ℤ). z +ℤ pos e.w2) (not_chosen old.opened old.bank.0 (pos 0) shut) ∙ +ℤ_idl (pos e.w2)))
      (sym (not_chosen old.opened old.owed.0 (pos 0) shut))
      (sym (not_chosen old.opened (pos old.violation_days) (pos 0) shut))
      (λ i. refl)
      (record {
        notices = λ i. ap (λ (a : Account). a.today.notice) (anew i) ∙ of_choice (λ (a : Account). a.today.notice) (eqb e.a i) (enrolled l.terms e) (account_at l i);
        opens = λ i. ap (λ (a : Account). a.opened) (anew i) ∙ of_choice (λ (a : Account). a.opened) (eqb e.a i) (enrolled l.terms e) (account_at l i);
        enrols = λ _. shut;
        asked = λ z. absurd (omega (arith, z));
      })

  pub takes_deliver : e.a < 16 → e.kind ≡ kinds.DELIVER → verdict (deliver_checks l.terms.retainage old e) ≡ 0 → Taken l e (plain 0) (with_account l e.a (after_delivery l.terms.retainage old e))
  unfolding deliver_checks after_delivery delivered delivered_today with_today with_totals with_month with_bank open_bank
  takes_deliver i is o =
      let amount = amount_under l.terms.retainage e in
      stores e 3 is refl l (after_delivery l.terms.retainage old e) amount.0 refl refl s (begun_before 3 is (λ z. omega (arith, z))) i
      (not-false (account_in_range (after_delivery l.terms.retainage old e)) (clear _ refl o 2))
      (grows old.opened (sum old.bank amount).0 old.bank.0 amount.0 (not-false old.opened (clear _ refl o 0)) (sum_value old.bank amount))
      refl
      refl
      (λ i. refl)
      (keeps_letters e 3 is refl l (after_delivery l.terms.retainage old e) refl refl s i refl refl)

  abbrev sign : Bool → ℤ
  sign sells = cond sells (pos e.w1) (neg_ℤ (pos e.w1))

  -- the month's trades have no part in the bank
  booked_moves : (sells : Bool) (y : ℤ) (c : Change) → Moved (booked sells old (record { 0 = e.w1 })) y c → Moved old y c
  unfolding booked with_month with_totals open_bank
  booked_moves sells y c m = record { ranged = m.ranged; bank = m.bank; debt = m.debt; days = m.days; letter = m.letter; opened = m.opened }

  trade_moves : Moved old (sign (company_sells e)) (traded old e)
  unfolding traded
  trade_moves =
      either (λ (c : Change). Moved old (sign (company_sells e)) c) (company_sells e) _ _
      (λ t. rw t (booked_moves true (pos e.w1) _ (takes e.date.month (booked true old (record { 0 = e.w1 })) (record { 0 = e.w1 }))))
      (λ f. rw f (booked_moves false (neg_ℤ (pos e.w1)) _ (gives e.date.month (booked false old (record { 0 = e.w1 })) (record { 0 = e.w1 }))))

  pub takes_trade : e.a < 16 → e.kind ≡ kinds.TRADE → cond (not old.opened) 24 (traded old e).number ≡ 0 → Taken l e (plain 0) (with_account l e.a (traded old e).account)
  takes_trade i is o =
      let open_and_moved = first (not old.opened) 24 (traded old e).number refl o in
      stores e 5 is refl l (traded old e).account (sign (company_sells e)) refl refl s (begun_before 5 is (λ z. omega (arith, z))) i
      (trade_moves.ranged open_and_moved.1)
      (trade_moves.bank (not-false old.opened open_and_moved.0))
      trade_moves.debt
      trade_moves.days
      (λ i. refl)
      (keeps_letters e 5 is refl l (traded old e).account refl refl s i trade_moves.letter trade_moves.opened)

  pub takes_measure : e.a < 16 → e.kind ≡ kinds.MEASURE → verdict (measure_checks old e) ≡ 0 → Taken l e (plain 0) (with_account l e.a (after_measure old e))
  unfolding measure_checks after_measure remeasured with_month with_measure open_bank
  takes_measure i is o =
      stores e 6 is refl l (after_measure old e) (pos 0) refl refl s (begun_before 6 is (λ z. omega (arith, z))) i
      (not-false (account_in_range (after_measure old e)) (clear _ refl o 2))
      (sym (+ℤ_idr (open_bank old)))
      refl
      refl
      (λ i. sym (either_way (eqb e.a i) (pos 0)))
      (keeps_letters e 6 is refl l (after_measure old e) refl refl s i refl refl)

  pub takes_usage : e.a < 16 → e.kind ≡ kinds.USAGE → verdict (usage_checks old e) ≡ 0 → Taken l e (plain 0) (with_account l e.a (after_usage old e))
  unfolding usage_checks after_usage metered with_month open_bank
  takes_usage i is o =
      stores e 7 is refl l (after_usage old e) (pos 0) refl refl s (begun_before 7 is (λ z. omega (arith, z))) i
      (not-false (account_in_range (after_usage old e)) (clear _ refl o 2))
      (sym (+ℤ_idr (open_bank old)))
      refl
      refl
      (λ i. sym (either_way (eqb e.a i) (pos 0)))
      (keeps_letters e 7 is refl l (after_usage old e) refl refl s i refl refl)

  pub takes_confiscated : e.a < 16 → e.kind ≡ kinds.CONFISCATED → verdict (confiscation_checks old e) ≡ 0 → Taken l e (plain 0) (with_account l e.a (after_confiscation old e))
  unfolding confiscation_checks after_confiscation confiscated_today with_today open_bank
  takes_confiscated i is o =
      stores e 10 is refl l (after_confiscation old e) (pos 0) refl refl s (begun_before 10 is (λ z. omega (arith, z))) i
      (not-false (account_in_range (after_confiscation old e)) (clear _ refl o 2))
      (sym (+ℤ_idr (open_bank old)))
      refl
      refl
      (λ i. sym (either_way (eqb e.a i) (pos 0)))
      (keeps_letters e 10 is refl l (after_confiscation old e) refl refl s i refl refl)

  -- ---- HOLIDAY stores none

  pub takes_holiday : e.kind ≡ kinds.HOLIDAY → verdict (holiday_checks l (day_named e)) ≡ 0 → Taken l e (plain 0) (holding l (day_named e))
  takes_holiday is o =
      leaves e 11 is refl l (holding l (day_named e)) refl refl refl refl (begun_before 11 is (λ z. omega (arith, z)))
      (record { sized = unfold holding with_holidays in s.sized; ranged = holding_ranged l (day_named e) o s.ranged })
      (unfold holding with_holidays in refl)
      (unfold holding with_holidays in refl)
      (λ i. refl)

  -- ---- TRANSFER stores two accounts

  pub takes_transfer : e.kind ≡ kinds.TRANSFER → verdict (transfer_checks l e) ≡ 0
      → Taken l e (plain 0) (with_account (with_account l e.a (giver l e).account) e.b (receiver l e).account)
  unfolding transfer_checks handing_checks kind_of lookup giver receiver
  takes_transfer is o =
      let two : (kind_of e.kind).accounts ≡ 2 = rw is in
      let right = is_right l e h in
      let gave = gives e.date.month (account_at l e.a) (record { 0 = e.w1 }) in
      let took = takes e.date.month (account_at l e.b) (record { 0 = e.w1 }) in
      let open' = not-false ((account_at l e.a).opened && (account_at l e.b).opened) (clear _ refl o 0) in
      let free = not-false (eqb (giver l e).number 0 && eqb (receiver l e).number 0) (clear _ refl o 2) in
      pairs e 4 is refl l (giver l e).account (receiver l e).account (pos e.w1) refl s (begun_before 4 is (λ z. omega (arith, z)))
      (a_fits e right (omega arith)) (b_fits e right (omega arith)) (transfer_fits e right is).1
      (gave.ranged (eqb-true (giver l e).number 0 (and_left (eqb (giver l e).number 0) (eqb (receiver l e).number 0) free)))
      (took.ranged (eqb-true (receiver l e).number 0 (and_right (eqb (giver l e).number 0) (eqb (receiver l e).number 0) free)))
      (gave.bank (and_left (account_at l e.a).opened (account_at l e.b).opened open'))
      (took.bank (and_right (account_at l e.a).opened (account_at l e.b).opened open'))
      gave.debt took.debt gave.days took.days
      (λ i. refl)
      (untouched 4 l e _ refl refl refl (same (λ (a : Account). a.today.notice) gave.letter took.letter) (same (λ (a : Account). a.opened) gave.opened took.opened))
    where
      same : {A : Type 0} (f : Account → A) → f (giver l e).account ≡ f (account_at l e.a) → f (receiver l e).account ≡ f (account_at l e.b) → (i : ℕ)
          → f (account_at (with_account (with_account l e.a (giver l e).account) e.b (receiver l e).account) i) ≡ f (account_at l i)
      same = pair_stayed l e.a e.b (giver l e).account (receiver l e).account s.sized within.0 within.1
        where
          within : (e.a < 16) × (e.b < 16)
          within = let two : (kind_of e.kind).accounts ≡ 2 = rw is in (a_fits e (is_right l e h) (omega arith), b_fits e (is_right l e h) (omega arith))
