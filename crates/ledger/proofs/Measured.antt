-- A posting keeps a ledger in range, and one in range has its measurement day in every month. A HOLIDAY that was accepted names a day after today, so
-- today's own questions find the same answers.
use Prim.Native.Nat.{ℕ}
use mathlib.Core.Path.{◌≡◌, refl, sym, ap, ◌∙◌}
use mathlib.Core.Bool.{Bool, true, false, cond, not, ◌&&◌}
use mathlib.Core.List.{List, [], ◌∷◌, ◌++◌}
use native.Mathlib.Omega.{arith}
use lib.Dec.{eqb}
use lib.ListN.{length}
use borrow.Author.Tests.{eqb-true, eqb-false, eq-eqb, ne_eqb, not-false}
use Rattle.tariff.specs.Dates.{day_after, last_of_month, same_date}
use Rattle.tariff.specs.Holidays.{held_dates, kept_from, on_measurement_day, stored_dates}
use Rattle.tariff.proofs.BusinessDays.{every_month, moves_on, today_stays}
use Rattle.tariff.proofs.HeldDates.{held_stored, kept_members, kept_without}
use Rattle.tariff.proofs.Laws.{same_date_is}
use Rattle.ledger.specs.Answers.{plain, refused, settle}
use Rattle.ledger.specs.Checks.{Check, verdict}
use Rattle.ledger.specs.Closing.{ready, stays_in_range}
use Rattle.ledger.specs.Closings.{closed, closing_checks, holidays_after, post_closing}
use Rattle.ledger.specs.Days.{retired, wrong_day}
use Rattle.ledger.specs.Entries.{day_named, entry_of}
use Rattle.ledger.specs.Forms.{entry_checks}
use Rattle.ledger.specs.Holiday.{holding, holiday_checks, post_holiday}
use Rattle.ledger.specs.Kinds.{kind_of, lookup}
use Rattle.ledger.specs.Measuring.{DropsPassed, EveryMonthMeasured, HolidayAccepted, HoldsIt, KeepsOrder, MovesMeasuring, SameToday, StaysInRange, StoredAnew}
use Rattle.ledger.specs.Notice.{meets, notice_checks, post_notice}
use Rattle.ledger.specs.Posting.{admission, post_entry, post_kind, post_several, posted, standing_checks, stored}
use Rattle.ledger.specs.Ranges.{every_account, in_range}
use Rattle.ledger.specs.State.{account_at, fresh, held_in, with_holidays}
use Rattle.ledger.specs.Structs.{Date, Entry, Ledger, Posted, Holidays}
use Rattle.ledger.specs.Transfer.{giver, post_transfer, receiver, transfer_checks}
use Rattle.ledger.proofs.Admissions.{is_begun, is_ranged, is_today}
use Rattle.ledger.proofs.Bounded.{begun_ranged, ranged_parts}
use Rattle.ledger.proofs.EveryPosting.{step}
use Rattle.ledger.proofs.FreshLedger.{fresh_sound}
use Rattle.ledger.proofs.NamedDays.{held_next, holding_ranged, is_later_lem, is_real_day, leaves_one_lem}
use Rattle.ledger.proofs.OldLedgers.{month_closed, places_stay}
use Rattle.ledger.proofs.OneStep.{Sound}
use Rattle.ledger.proofs.Runs.{run_keeps}
use Rattle.ledger.proofs.Verdicts.{verdict_tail}

-- ---- any list of postings

sound_next : (l : Ledger) (b : List ℕ) → Sound l → Sound (posted l b).ledger
sound_next l b s = go (eqb (posted l b).answer.number 0) refl
  where
    go : (t : Bool) → eqb (posted l b).answer.number 0 ≡ t → Sound (posted l b).ledger
    go true e = ((step l b s).taken e).sound
    go false e = rw ((step l b s).kept e) s

pub stays_in_range_lem : StaysInRange
stays_in_range_lem new bs = (run_keeps Sound sound_next (fresh new) bs (fresh_sound new)).ranged

pub every_month_measured : EveryMonthMeasured
unfolding held_in
every_month_measured l r = every_month l.holidays (ranged_parts l r).held

-- ---- an accepted CLOSE MONTH

pub drops_passed : DropsPassed
unfolding held_in closed holidays_after
drops_passed l b nine z x =
    rw (month_closed l b nine z, eq-eqb (entry_of b).kind 9 nine, held_stored (kept_from (day_after (entry_of b).date) (held_dates l.holidays)))
    (kept_members (day_after (entry_of b).date) (held_dates l.holidays) x)

pub keeps_order : KeepsOrder
unfolding held_in closed holidays_after
keeps_order l b nine z =
    rw (month_closed l b nine z, eq-eqb (entry_of b).kind 9 nine, held_stored (kept_from (day_after (entry_of b).date) (held_dates l.holidays)))
    (kept_without (day_after (entry_of b).date) (held_dates l.holidays))

-- ---- an accepted HOLIDAY

module _ (l : Ledger) (e : Entry) where
  several_holiday : e.kind ≡ 11 → post_kind l e ≡ post_holiday l e
  unfolding post_kind post_several kind_of lookup
  several_holiday is =
      rw (ne_eqb e.kind 1 (λ z. omega (arith, z, is)), ne_eqb e.kind 2 (λ z. omega (arith, z, is)), ne_eqb e.kind 3 (λ z. omega (arith, z, is)), ne_eqb e.kind 4 (λ z. omega (arith, z, is)), ne_eqb e.kind 5 (λ z. omega (arith, z, is)), ne_eqb e.kind 6 (λ z. omega (arith, z, is)), ne_eqb e.kind 7 (λ z. omega (arith, z, is)), ne_eqb e.kind 8 (λ z. omega (arith, z, is)), ne_eqb e.kind 9 (λ z. omega (arith, z, is)), ne_eqb e.kind 10 (λ z. omega (arith, z, is)), eq-eqb e.kind 11 is)

-- what its acceptance tells
record Accepted (l : Ledger) (e : Entry) (p : Posted) : Type 0 where
  admitted : admission l e ≡ 0
  free : verdict (holiday_checks l (day_named e)) ≡ 0
  next : p.ledger ≡ holding l (day_named e)

module _ (l : Ledger) (e : Entry) (is : e.kind ≡ 11) where
  of_rule : admission l e ≡ 0 → (post_holiday l e).answer.number ≡ 0 → Accepted l e (post_holiday l e)
  unfolding post_holiday settle plain
  of_rule a z = record { admitted = a; free = z; next = rw (eq-eqb (verdict (holiday_checks l (day_named e))) 0 z) }

  of_entry : (t : Bool) → eqb (admission l e) 0 ≡ t → (cond t (post_kind l e) (refused l (admission l e))).answer.number ≡ 0
      → Accepted l e (cond t (post_kind l e) (refused l (admission l e)))
  unfolding refused plain
  of_entry true h z = rw (several_holiday l e is) (of_rule (eqb-true (admission l e) 0 h) (rw (several_holiday l e is) at z))
  of_entry false h z = absurd (eqb-false (admission l e) 0 h z)

  of_bytes : (t : Bool) → (cond t (post_entry l e) (refused l 1)).answer.number ≡ 0 → Accepted l e (cond t (post_entry l e) (refused l 1))
  unfolding post_entry refused plain
  of_bytes true z = of_entry (eqb (admission l e) 0) refl z
  of_bytes false z = absurd (omega arith)

accepted : (l : Ledger) (b : List ℕ) → HolidayAccepted l b → Accepted l (entry_of b) (posted l b)
unfolding posted
accepted l b n = of_bytes l (entry_of b) n.kind (eqb (length b) 32) n.accepted

pub holds_it : HoldsIt
holds_it l b n = ap held_in (accepted l b n).next ∙ held_next l (day_named (entry_of b))

pub moves_measuring : MovesMeasuring
moves_measuring l b n e =
    let a = accepted l b n in
    let d = day_named (entry_of b) in
    rw (holds_it l b n) (moves_on (held_in l) d (is_real_day l d a.free) e (leaves_one_lem l d a.free))

-- ---- the places past the count

abbrev Stored : Ledger → Type 0
Stored l = l.holidays ≡ stored_dates (held_in l)

fresh_stored : (new : Bool) → Stored (fresh new)
unfolding fresh held_in
fresh_stored new = ap stored_dates (sym (held_stored []))

holding_stored : (l : Ledger) (d : Date) → Stored (holding l d)
holding_stored l d = (unfold holding with_holidays in ap stored_dates (sym (held_next l d)))

closed_stored : (l : Ledger) (e : Entry) → e.kind ≡ 9 → Stored (closed l e).ledger
unfolding held_in closed holidays_after
closed_stored l e nine = rw (eq-eqb e.kind 9 nine, held_stored (kept_from (day_after e.date) (held_dates l.holidays)))

stored_next : (l : Ledger) (b : List ℕ) → Sound l → Stored l → Stored (posted l b).ledger
unfolding held_in
stored_next l b s h = by_number (eqb (posted l b).answer.number 0) refl
  where
    by_kind : (posted l b).answer.number ≡ 0 → (t u : Bool) → eqb (entry_of b).kind 11 ≡ t → eqb (entry_of b).kind 9 ≡ u → Stored (posted l b).ledger
    by_kind z true u k n =
        let a = accepted l b (record { kind = eqb-true (entry_of b).kind 11 k; accepted = z }) in
        rw a.next (holding_stored l (day_named (entry_of b)))
    by_kind z false true k n =
        let nine = eqb-true (entry_of b).kind 9 n in
        rw (month_closed l b nine z) (closed_stored l (entry_of b) nine)
    by_kind z false false k n =
        let same = places_stay l b (eqb-false (entry_of b).kind 11 k) (eqb-false (entry_of b).kind 9 n) in
        same ∙ h ∙ ap (λ (x : Holidays). stored_dates (held_dates x)) (sym same)

    by_number : (t : Bool) → eqb (posted l b).answer.number 0 ≡ t → Stored (posted l b).ledger
    by_number true e = by_kind (eqb-true (posted l b).answer.number 0 e) (eqb (entry_of b).kind 11) (eqb (entry_of b).kind 9) refl refl
    by_number false e = rw ((step l b s).kept e) h

pub stored_anew : StoredAnew
stored_anew new bs =
    (run_keeps (λ (l : Ledger). Sound l × Stored l) (λ l b k. (sound_next l b k.0, stored_next l b k.0 k.1)) (fresh new) bs (fresh_sound new, fresh_stored new)).1

-- ---- the same day's other postings

-- a posting that is chosen by the same test is answered alike where both ways are
either_answer : (t : Bool) (x y u v : Posted) → (t ≡ true → x.answer ≡ u.answer) → (t ≡ false → y.answer ≡ v.answer) → (cond t x y).answer ≡ (cond t u v).answer
either_answer true x y u v f g = f refl
either_answer false x y u v f g = g refl

-- 23 is not asked where 22 is given
day_by_day : (xs : List Check) (b₂₁ other gone w v : Bool) → (other ≡ false → w ≡ v)
    → verdict (xs ++ ((false, 20) ∷ (b₂₁, 21) ∷ (other, 22) ∷ (gone, 36) ∷ (w, 23) ∷ [])) ≡ verdict (xs ++ ((false, 20) ∷ (b₂₁, 21) ∷ (other, 22) ∷ (gone, 36) ∷ (v, 23) ∷ []))
unfolding verdict
day_by_day xs b₂₁ true gone w v f = verdict_tail xs _ _ refl
day_by_day xs b₂₁ false gone w v f = rw (f refl)

module _ (l : Ledger) (d : Date) (r : in_range l ≡ true) (o : verdict (holiday_checks l d) ≡ 0) (begun : l.begun ≡ true) where
  abbrev next : Ledger
  next = holding l d

  reads_same : (t : Date) → same_date t l.date ≡ true → on_measurement_day (held_in (holding l d)) t ≡ on_measurement_day (held_in l) t
  reads_same t s =
      rw (same_date_is t l.date s, held_next l d)
      (today_stays (held_in l) d l.date (begun_ranged l r begun).0 (is_later_lem l d o))

  module _ (e : Entry) (no_terms : e.kind ≡ 1 → ⊥) where
    same_wrong : same_date e.date l.date ≡ true → wrong_day true (held_in (holding l d)) e ≡ wrong_day l.touched (held_in l) e
    unfolding wrong_day lookup
    same_wrong s = rw (ne_eqb e.kind 1 no_terms, reads_same e.date s)

    same_admission : admission (holding l d) e ≡ admission l e
    unfolding admission standing_checks
    same_admission =
        rw (holding_ranged l d o r, r)
        (unfold holding with_holidays in
        (day_by_day (entry_checks l.is_new e) (not l.begun && not (eqb e.kind 1)) (l.begun && not (same_date e.date l.date)) (retired l.is_new e) _ _
        (λ z. same_wrong (not-false (same_date e.date l.date) (rw begun at z)))))

    -- ---- past admission

    module _ (h : admission l e ≡ 0) where
      same_checks : closing_checks (holding l d) e ≡ closing_checks l e
      unfolding closing_checks holding with_holidays
      same_checks =
          ap (λ (reads : Bool). (not (every_account (ready (last_of_month e.date) reads) l.accounts), 27) ∷ (not (every_account (stays_in_range l.is_new l.terms e) l.accounts), 29) ∷ [])
          (reads_same e.date (is_today l e h begun))

      same_closing : (post_closing (holding l d) e).answer ≡ (post_closing l e).answer
      unfolding post_closing
      same_closing =
          ap (λ (cs : List Check). (cond (eqb (verdict cs) 0) (closed (holding l d) e) (refused (holding l d) (verdict cs))).answer) same_checks
          ∙ either_answer (eqb (verdict (closing_checks l e)) 0) (closed (holding l d) e) (refused (holding l d) (verdict (closing_checks l e))) (closed l e) (refused l (verdict (closing_checks l e)))
          (λ _. unfold closed holding with_holidays in refl) (λ _. unfold refused in refl)

      same_transfer : (post_transfer (holding l d) e).answer ≡ (post_transfer l e).answer
      unfolding post_transfer transfer_checks giver receiver account_at settle holding with_holidays
      same_transfer = refl

      same_notice : (post_notice (holding l d) e).answer ≡ (post_notice l e).answer
      unfolding post_notice notice_checks meets account_at settle holding with_holidays
      same_notice = refl

      same_several : (e.kind ≡ 11 → ⊥) → (post_several (holding l d) e).answer ≡ (post_several l e).answer
      unfolding post_several lookup
      same_several no_holiday =
          rw (ne_eqb e.kind 1 no_terms, ne_eqb e.kind 11 no_holiday)
          (either_answer (eqb e.kind 4) _ _ _ _ (λ _. same_transfer)
          (λ _. either_answer (eqb e.kind 8) _ _ _ _ (λ _. same_closing)
          (λ _. either_answer (eqb e.kind 9) _ _ _ _ (λ _. same_closing)
          (λ _. either_answer (eqb e.kind 12) (post_notice (holding l d) e) (refused (holding l d) 2) (post_notice l e) (refused l 2) (λ _. same_notice) (λ _. unfold refused in refl)))))

      same_kind : (e.kind ≡ 11 → ⊥) → (post_kind (holding l d) e).answer ≡ (post_kind l e).answer
      unfolding post_kind
      same_kind no_holiday =
          either_answer (eqb (kind_of e.kind).accounts 1) _ _ _ _ (λ _. unfold stored settle account_at holding with_holidays in refl) (λ _. same_several no_holiday)

    same_entry : (e.kind ≡ 11 → ⊥) → (post_entry (holding l d) e).answer ≡ (post_entry l e).answer
    unfolding post_entry
    same_entry no_holiday =
        ap (λ (n : ℕ). (cond (eqb n 0) (post_kind (holding l d) e) (refused (holding l d) n)).answer) same_admission
        ∙ either_answer (eqb (admission l e) 0) (post_kind (holding l d) e) (refused (holding l d) (admission l e)) (post_kind l e) (refused l (admission l e))
        (λ z. same_kind (eqb-true (admission l e) 0 z) no_holiday) (λ _. unfold refused in refl)

pub same_today : SameToday
unfolding posted
same_today l b c n no_terms no_holiday =
    let a = accepted l b n in
    let e = entry_of b in
    let begun = is_begun l e a.admitted (λ z. omega (arith, z, n.kind)) in
    ap (λ (x : Ledger). (cond (eqb (length c) 32) (post_entry x (entry_of c)) (refused x 1)).answer) a.next
    ∙ either_answer (eqb (length c) 32) (post_entry (holding l (day_named e)) (entry_of c)) (refused (holding l (day_named e)) 1) (post_entry l (entry_of c)) (refused l 1)
    (λ _. same_entry l (day_named e) (is_ranged l e a.admitted) a.free begun (entry_of c) no_terms no_holiday)
    (λ _. unfold refused in refl)
