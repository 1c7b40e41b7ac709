-- No rule but CONFISCATED's writes to what is told of confiscated gas, and none but NOTICE's to the letters that stand; closings and ENROL clear both. No
-- rule but HOLIDAY's adds a date to those held, and a month's end only drops some; no rule at all writes to what says old or new.
use Prim.Native.Nat.{ℕ, zero, suc, min}
use mathlib.Core.Path.{◌≡◌, refl, sym, ap, ◌∙◌}
use mathlib.Core.Bool.{Bool, true, false, cond, not, true≢false}
use mathlib.Core.List.{List, [], ◌∷◌}
use native.Mathlib.Omega.{arith}
use lib.Dec.{eqb, leb}
use lib.ListN.{length, get_or, set}
use borrow.Author.Tests.{eqb-false, eqb-true, ne_eqb}
use Rattle.tariff.specs.Dates.{day_after}
use Rattle.tariff.specs.Holidays.{held_dates}
use Rattle.tariff.proofs.Bools.{and_right, either}
use Rattle.tariff.proofs.HeldDates.{held_stored, none_from}
use Rattle.tariff.proofs.Laws.{forfeit_value}
use Rattle.ledger.specs.Structs.{Account, Change, Closed, Entry, Holidays, Ledger, Month, Notice, Posted, Quantity, Report, Terms, Today, Units}
use Rattle.ledger.specs.Checks.{verdict}
use Rattle.ledger.specs.Kinds.{kind_of, lookup}
use Rattle.ledger.specs.Entries.{company_sells, day_named, entry_of, prices_of, terms_of, writer_takes}
use Rattle.ledger.specs.State.{account_at, as_open, fresh, held_in, no_notice, no_today, nobody, with_account, with_bank, with_capacity, with_carry, with_excuse, with_holidays, with_measure, with_month, with_notice, with_today, with_totals}
use Rattle.ledger.specs.Answers.{plain, quiet, refused, settle}
use Rattle.ledger.specs.Terms.{post_terms, reworked, terms_next}
use Rattle.ledger.specs.Enrol.{enrolled, enrolment, new_account}
use Rattle.ledger.specs.Deliver.{after_delivery, amount_under, delivered, delivered_today, delivery}
use Rattle.ledger.specs.Gas.{after_giving, after_taking, giving, taking}
use Rattle.ledger.specs.Transfer.{giver, post_transfer, receiver}
use Rattle.ledger.specs.Trade.{booked, trade, traded}
use Rattle.ledger.specs.Measure.{after_measure, measurement, remeasured}
use Rattle.ledger.specs.Usage.{after_usage, metered, usage}
use Rattle.ledger.specs.Confiscated.{after_confiscation, confiscated_today, confiscation}
use Rattle.ledger.specs.Closing.{after_closing, after_day, after_month, closing_of, day_closing, day_end, excess_at, forfeit_at, left_alone, month_closing, month_end, report_of}
use Rattle.ledger.specs.Closings.{closed, closing_checks, holidays_after, post_closing}
use Rattle.ledger.specs.Holiday.{holding, post_holiday}
use Rattle.ledger.specs.Notice.{exchanged, exchanging, meets, other_after, post_notice, waiting, writer_after, writer_waiting}
use Rattle.ledger.specs.Posting.{admission, change_of, post_entry, post_kind, post_several, posted, stored}
use Rattle.ledger.specs.Measuring.{PlacesStay}
use Rattle.ledger.specs.OldAndNew.{AsBefore, ForfeitsByRule, KeepsWhich, NineKinds, StaysAsBefore, StaysUnlettered, StaysUnnamed, Unlettered, excess_in, is_old_kind}
use Rattle.ledger.proofs.ClosedAccounts.{account_closed, account_reported}
use Rattle.ledger.proofs.FreshLedger.{fresh_account}
use Rattle.ledger.proofs.KindCases.{done, each, ◌then◌}
use Rattle.ledger.proofs.OldKinds.{old_posted}
use Rattle.ledger.proofs.Runs.{run_keeps}
use Rattle.ledger.proofs.StepKinds.{account_reworked}

-- ---- what an account's day says: nothing of confiscated gas, or that no letter stands

abbrev Untold : Today → Type 0
Untold d = (d.confiscated ≡ false) × (d.confiscation.0 ≡ 0)

abbrev NoLetter : Today → Type 0
NoLetter d = d.notice ≡ no_notice

-- such a property: a day begins with it, and what an entry of this kind writes to the day leaves it
record Spares (P : Today → Type 0) (kind : ℕ) : Type 0 where
  begun : P no_today
  delivered : (m : Month) (a : Account) (amount : Units) (q : Quantity) → P a.today → P (delivered_today m a amount q)
  confiscated : kind ≡ 10 → (d : Today) (q : Quantity) → P d → P (confiscated_today d q)
  noticed : kind ≡ 12 → (a : Account) (n : Notice) → P a.today → P (with_notice a n).today

module _ (kind : ℕ) where
  untold_spared : (kind ≡ 10 → ⊥) → Spares Untold kind
  unfolding no_today delivered_today with_notice with_today
  untold_spared d = record { begun = (refl, refl); delivered = λ _ _ _ _ u. u; confiscated = λ is. absurd (d is); noticed = λ _ _ _ u. u }

  letters_spared : (kind ≡ 12 → ⊥) → Spares NoLetter kind
  unfolding no_today delivered_today confiscated_today
  letters_spared d = record { begun = refl; delivered = λ _ _ _ _ u. u; confiscated = λ _ _ _ u. u; noticed = λ is. absurd (d is) }

-- ---- what a posting keeps

module _ (P : Today → Type 0) where
  abbrev Days : Ledger → Type 0
  Days l = (i : ℕ) → P (account_at l i).today

  -- one account of a list anew
  set_day : (xs : List Account) (a : ℕ) (v : Account) → P v.today → ((i : ℕ) → P (get_or xs i nobody).today) → (i : ℕ) → P (get_or (set xs a v) i nobody).today
  set_day [] a v p h i = h i
  set_day (x ∷ xs) zero v p h zero = p
  set_day (x ∷ xs) zero v p h (suc i) = h (suc i)
  set_day (x ∷ xs) (suc a) v p h zero = h 0
  set_day (x ∷ xs) (suc a) v p h (suc i) = set_day xs a v p (λ j. h (suc j)) i

record Kept (P : Today → Type 0) (l : Ledger) (e : Entry) (next : Ledger) : Type 0 where
  which : next.is_new ≡ l.is_new
  days : Spares P e.kind → Days P l → Days P next
  places : (e.kind ≡ 11 → ⊥) → (e.kind ≡ 9 → ⊥) → next.holidays ≡ l.holidays
  unnamed : (e.kind ≡ 11 → ⊥) → held_in l ≡ [] → held_in next ≡ []

module _ (P : Today → Type 0) (l : Ledger) (e : Entry) where
  same : Kept P l e l
  same = record { which = refl; days = λ _ u. u; places = λ _ _. refl; unnamed = λ _ u. u }

  settled : (n : ℕ) (next : Ledger) → Kept P l e next → Kept P l e (settle l n next).ledger
  unfolding settle
  settled n next k = either (Kept P l e) (eqb n 0) next l (λ _. k) (λ _. same)

  abbrev Writes : Account → Type 0
  Writes v = Spares P e.kind → Days P l → P v.today

  stores : (v : Account) → Writes v → Kept P l e (with_account l e.a v)
  unfolding with_account account_at held_in
  stores v f = record { which = refl; days = λ s u. set_day P l.accounts e.a v (f s u) u; places = λ _ _. refl; unnamed = λ _ u. u }

  -- the account that an entry names, with the same day
  stores_same : (v : Account) → v.today ≡ (account_at l e.a).today → Kept P l e (with_account l e.a v)
  stores_same v s = stores v (λ _ u. rw s (u e.a))

  -- both accounts that it names
  stores_two : (v w : Account) → Writes v → Writes w → Kept P l e (with_account (with_account l e.a v) e.b w)
  unfolding with_account account_at held_in
  stores_two v w f g =
      record {
        which = refl;
        days = λ s u. set_day P (set l.accounts e.a v) e.b w (g s u) (set_day P l.accounts e.a v (f s u) u);
        places = λ _ _. refl;
        unnamed = λ _ u. u;
      }

-- ---- each kind of one account

enrolled_day : (t : Terms) (e : Entry) → (enrolled t e).today ≡ no_today
unfolding enrolled new_account as_open with_bank with_measure with_capacity nobody
enrolled_day t e = refl

delivered_day : (retainage : ℕ) (a : Account) (e : Entry) → (after_delivery retainage a e).today ≡ delivered_today e.date.month a (amount_under retainage e) (record { 0 = e.w2 })
unfolding after_delivery delivered with_today
delivered_day retainage a e = refl

confiscated_day : (a : Account) (e : Entry) → (after_confiscation a e).today ≡ confiscated_today a.today (record { 0 = e.w1 })
unfolding after_confiscation with_today
confiscated_day a e = refl

giving_day : (m : _) (a : Account) (q : _) → (giving m a q).account.today ≡ a.today
unfolding giving after_giving with_bank
giving_day m a q = refl

taking_day : (m : _) (a : Account) (q : _) → (taking m a q).account.today ≡ a.today
unfolding taking after_taking with_bank
taking_day m a q = refl

traded_day : (a : Account) (e : Entry) → (traded a e).account.today ≡ a.today
unfolding traded booked with_totals with_month giving after_giving taking after_taking with_bank
traded_day a e = either (λ (c : Change). c.account.today ≡ a.today) (company_sells e) _ _ (λ _. refl) (λ _. refl)

measured_day : (a : Account) (e : Entry) → (after_measure a e).today ≡ a.today
unfolding after_measure remeasured with_month with_measure
measured_day a e = refl

metered_day : (a : Account) (e : Entry) → (after_usage a e).today ≡ a.today
unfolding after_usage metered with_month
metered_day a e = refl

module _ (P : Today → Type 0) (l : Ledger) (e : Entry) where
  kept_one : Kept P l e (stored l e.a (change_of l.terms (account_at l e.a) e)).ledger
  unfolding change_of stored enrolment delivery trade measurement usage confiscation
  kept_one =
      let old : Account = account_at l e.a in
      each (λ (c : Change). Kept P l e (stored l e.a c).ledger) e.kind _
      ((λ _. settled P l e _ _ (stores P l e _ (λ s _. rw (enrolled_day l.terms e) s.begun)))
      then (λ _. settled P l e _ _ (stores P l e _ (λ s u. rw (delivered_day l.terms.retainage old e) (s.delivered _ old _ _ (u e.a)))))
      then (λ _. settled P l e _ _ (stores_same P l e _ (traded_day old e)))
      then (λ _. settled P l e _ _ (stores_same P l e _ (measured_day old e)))
      then (λ _. settled P l e _ _ (stores_same P l e _ (metered_day old e)))
      then (λ is. settled P l e _ _ (stores P l e _ (λ s u. rw (confiscated_day old e) (s.confiscated is old.today _ (u e.a)))))
      then done)
      (settled P l e 2 _ (stores_same P l e old refl))

-- ---- several accounts

reworked_day : (t : Terms) (a : Account) → (reworked t a).today ≡ a.today
unfolding reworked with_capacity
reworked_day t a = either (λ (c : Account). c.today ≡ a.today) a.opened _ a (λ _. refl) (λ _. refl)

exchanged_day : (takes : Bool) (m : _) (a : Account) (q : _) → (exchanging takes m a q).account.today ≡ a.today
unfolding exchanging
exchanged_day true m a q = taking_day m a q
exchanged_day false m a q = giving_day m a q

module _ (P : Today → Type 0) where
  -- a closing begins a day, or leaves the account alone
  closed_day : (new : Bool) (t : Terms) (e : Entry) (a : Account) → P no_today → P a.today → P (after_closing new t e a).today
  unfolding after_closing closing_of day_closing month_closing left_alone after_month month_end with_carry with_capacity with_measure with_month with_bank after_day day_end with_excuse with_today
  closed_day new t e a b u =
      either (λ (c : Closed). P c.account.today) a.opened _ _
      (λ _. each (λ (c : Closed). P c.account.today) e.kind _ ((λ _. b) then (λ _. b) then done) u)
      (λ _. u)

  -- the parties of a NOTICE
  writer_exchanged : (e : Entry) (a : Account) → P a.today → P (writer_after e a).today
  unfolding writer_after
  writer_exchanged e a u = rw (exchanged_day (writer_takes e) e.date.month a _) u

  module _ (e : Entry) (is : e.kind ≡ 12) (s : Spares P e.kind) (a : Account) (u : P a.today) where
    writer_waits : P (writer_waiting e a).today
    unfolding writer_waiting
    writer_waits = s.noticed is a _ u

    other_exchanged : P (other_after e a).today
    unfolding other_after
    other_exchanged = s.noticed is _ no_notice (rw (exchanged_day (not (writer_takes e)) e.date.month a _) u)

module _ (P : Today → Type 0) (l : Ledger) (e : Entry) where
  kept_terms : Kept P l e (terms_next l e)
  kept_terms =
      record {
        which = unfold terms_next in refl;
        days = λ _ u i. rw (account_reworked l e i, reworked_day (terms_of e) (account_at l i)) (u i);
        places = λ _ _. unfold terms_next in refl;
        unnamed = λ _ u. unfold terms_next held_in in u;
      }

  kept_transfer : Kept P l e (with_account (with_account l e.a (giver l e).account) e.b (receiver l e).account)
  unfolding giver receiver
  kept_transfer =
      stores_two P l e _ _
      (λ _ u. rw (giving_day e.date.month (account_at l e.a) _) (u e.a))
      (λ _ u. rw (taking_day e.date.month (account_at l e.b) _) (u e.b))

  kept_notice : e.kind ≡ 12 → Kept P l e (cond (meets l e) (exchanged l e) (waiting l e))
  unfolding exchanged waiting
  kept_notice is =
      either (Kept P l e) (meets l e) _ _
      (λ _.
      stores_two P l e _ _ (λ _ u. writer_exchanged P e (account_at l e.a) (u e.a)) (λ s u. other_exchanged P e is s (account_at l e.b) (u e.b)))
      (λ _. stores P l e _ (λ s u. writer_waits P e is s (account_at l e.a) (u e.a)))

  kept_holiday : e.kind ≡ 11 → Kept P l e (holding l (day_named e))
  unfolding holding with_holidays account_at
  kept_holiday is = record { which = refl; days = λ _ u. u; places = λ d _. absurd (d is); unnamed = λ d _. absurd (d is) }

  -- none held, none left
  none_kept : (h : Holidays) → held_dates h ≡ [] → held_dates (holidays_after e h) ≡ []
  unfolding holidays_after
  none_kept h u = either (λ (x : Holidays). held_dates x ≡ []) (eqb e.kind 9) _ h (λ _. held_stored _ ∙ rw u (none_from (day_after e.date))) (λ _. u)

  kept_closing : Kept P l e (post_closing l e).ledger
  unfolding post_closing refused
  kept_closing =
      either (λ (p : Posted). Kept P l e p.ledger) (eqb (verdict (closing_checks l e)) 0) (closed l e) _
      (λ _.
      record {
        which = unfold closed in refl;
        days = λ s u i. rw (account_closed l e i) (closed_day P l.is_new l.terms e (account_at l i) s.begun (u i));
        places = λ _ d. unfold closed holidays_after in rw (ne_eqb e.kind 9 d);
        unnamed = λ _ u. unfold closed held_in in (none_kept l.holidays u);
      })
      (λ _. same P l e)

  kept_several : Kept P l e (post_several l e).ledger
  unfolding post_several post_terms post_transfer post_holiday post_notice refused
  kept_several =
      each (λ (p : Posted). Kept P l e p.ledger) e.kind _
      ((λ _. settled P l e _ _ kept_terms)
      then (λ _. settled P l e _ _ kept_transfer)
      then (λ _. kept_closing)
      then (λ _. kept_closing)
      then (λ is. settled P l e _ _ (kept_holiday is))
      then (λ is. settled P l e _ _ (kept_notice is))
      then done)
      (same P l e)

-- ---- any posting; what does not ask for the day holds by either property

kept : (P : Today → Type 0) (l : Ledger) (b : List ℕ) → Kept P l (entry_of b) (posted l b).ledger
unfolding posted post_entry post_kind refused
kept P l b =
    let e : Entry = entry_of b in
    either (λ (p : Posted). Kept P l e p.ledger) (eqb (length b) 32) _ _
    (λ _. either (λ (p : Posted). Kept P l e p.ledger) (eqb (admission l e) 0) _ _
    (λ _. either (λ (p : Posted). Kept P l e p.ledger) (eqb (kind_of e.kind).accounts 1) _ _ (λ _. kept_one P l e) (λ _. kept_several P l e))
    (λ _. same P l e))
    (λ _. same P l e)

pub keeps_which : KeepsWhich
keeps_which l b = (kept Untold l b).which

pub places_stay : PlacesStay
places_stay l b h m = (kept Untold l b).places h m

pub nine_kinds : NineKinds
nine_kinds l b old whole none = old_posted b whole none l old

-- ---- an old ledger stays one

short_kept : (l : Ledger) (b : List ℕ) → (length b ≡ 32 → ⊥) → posted l b ≡ refused l 1
unfolding posted
short_kept l b d = rw (ne_eqb (length b) 32 d)

not_old : (n : ℕ) {kind : ℕ} → leb n 9 ≡ false → is_old_kind kind ≡ true → kind ≡ n → ⊥
unfolding is_old_kind
not_old n {kind} f t is = true≢false (sym (and_right (leb 1 kind) (leb kind 9) t) ∙ ap (λ (m : ℕ). leb m 9) is ∙ f)

-- an old ledger refuses the kinds that could make it another: what of it every other kind keeps, any posting keeps
old_keeps : (P : Ledger → Type 0) (l : Ledger) (b : List ℕ) → l.is_new ≡ false → P l → (is_old_kind (entry_of b).kind ≡ true → P (posted l b).ledger) → P (posted l b).ledger
unfolding refused
old_keeps P l b old p keeps = go (is_old_kind (entry_of b).kind) refl
  where
    unchanged : (n : ℕ) → posted l b ≡ refused l n → P (posted l b).ledger
    unchanged n e = rw e p

    later : (t : Bool) → eqb (length b) 32 ≡ t → is_old_kind (entry_of b).kind ≡ false → P (posted l b).ledger
    later true w z = unchanged 2 (nine_kinds l b old (eqb-true (length b) 32 w) z)
    later false w z = unchanged 1 (short_kept l b (eqb-false (length b) 32 w))

    go : (t : Bool) → is_old_kind (entry_of b).kind ≡ t → P (posted l b).ledger
    go true z = keeps z
    go false z = later (eqb (length b) 32) refl z

next_before : (l : Ledger) (b : List ℕ) → AsBefore l → AsBefore (posted l b).ledger
next_before l b s =
    old_keeps AsBefore l b s.old s
    (λ z. record { old = keeps_which l b ∙ s.old; untold = (kept Untold l b).days (untold_spared (entry_of b).kind (not_old 10 refl z)) s.untold })

fresh_before : AsBefore (fresh false)
fresh_before = record { old = unfold fresh in refl; untold = λ i. rw (fresh_account false i) (unfold nobody no_today in (refl, refl)) }

pub stays_as_before : StaysAsBefore
stays_as_before = (next_before, λ bs. run_keeps AsBefore next_before (fresh false) bs fresh_before)

next_unnamed : (l : Ledger) (b : List ℕ) → l.is_new ≡ false → held_in l ≡ [] → held_in (posted l b).ledger ≡ []
next_unnamed l b old none = old_keeps (λ (m : Ledger). held_in m ≡ []) l b old none (λ z. (kept Untold l b).unnamed (not_old 11 refl z) none)

-- old and without a holiday
abbrev Plain : Ledger → Type 0
Plain l = (l.is_new ≡ false) × (held_in l ≡ [])

next_plain : (l : Ledger) (b : List ℕ) → Plain l → Plain (posted l b).ledger
next_plain l b p = (keeps_which l b ∙ p.0, next_unnamed l b p.0 p.1)

fresh_plain : Plain (fresh false)
unfolding fresh held_in
fresh_plain = (refl, held_stored [])

pub stays_unnamed : StaysUnnamed
stays_unnamed = (next_unnamed, λ bs. (run_keeps Plain next_plain (fresh false) bs fresh_plain).1)

next_unlettered : (l : Ledger) (b : List ℕ) → l.is_new ≡ false → Unlettered l → Unlettered (posted l b).ledger
next_unlettered l b old none = old_keeps Unlettered l b old none (λ z. (kept NoLetter l b).days (letters_spared (entry_of b).kind (not_old 12 refl z)) none)

-- old and without a letter
abbrev Silent : Ledger → Type 0
Silent l = (l.is_new ≡ false) × Unlettered l

next_silent : (l : Ledger) (b : List ℕ) → Silent l → Silent (posted l b).ledger
next_silent l b p = (keeps_which l b ∙ p.0, next_unlettered l b p.0 p.1)

fresh_silent : Silent (fresh false)
fresh_silent = (unfold fresh in refl, λ i. rw (fresh_account false i) (unfold nobody no_today in refl))

pub stays_unlettered : StaysUnlettered
stays_unlettered = (next_unlettered, λ bs. (run_keeps Silent next_silent (fresh false) bs fresh_silent).1)

-- ---- an accepted closing of a month

module _ (l : Ledger) (e : Entry) (nine : e.kind ≡ 9) where
  abbrev Closes : Posted → Type 0
  Closes p = p.answer.number ≡ 0 → p ≡ closed l e

  refused_none : (n : ℕ) → (n ≡ 0 → ⊥) → Closes (refused l n)
  unfolding refused plain
  refused_none n d z = absurd (d z)

  several_closes : Closes (post_several l e)
  unfolding post_several post_closing
  several_closes =
      each Closes e.kind _
      ((λ is. absurd (omega (arith, is, nine)))
      then (λ is. absurd (omega (arith, is, nine)))
      then (λ is. absurd (omega (arith, is, nine)))
      then (λ _. either Closes (eqb (verdict (closing_checks l e)) 0) (closed l e) _ (λ _ _. refl) (λ f. refused_none _ (eqb-false (verdict (closing_checks l e)) 0 f)))
      then (λ is. absurd (omega (arith, is, nine)))
      then (λ is. absurd (omega (arith, is, nine)))
      then done)
      (refused_none 2 (λ z. omega (arith, z)))

  pub none_named : (kind_of e.kind).accounts ≡ 0
  unfolding kind_of lookup
  none_named = rw nine

  entry_closes : Closes (post_entry l e)
  unfolding post_entry post_kind
  entry_closes =
      either Closes (eqb (admission l e) 0) _ _
      (λ _. rw none_named several_closes)
      (λ f. refused_none (admission l e) (eqb-false (admission l e) 0 f))

pub month_closed : (l : Ledger) (b : List ℕ) → (entry_of b).kind ≡ 9 → (posted l b).answer.number ≡ 0 → posted l b ≡ closed l (entry_of b)
unfolding posted
month_closed l b nine =
    either (Closes l (entry_of b) nine) (eqb (length b) 32) _ _
    (λ _. entry_closes l (entry_of b) nine)
    (λ _. refused_none l (entry_of b) nine 1 (λ y. omega (arith, y)))

-- what it reports
pub month_reported : (l : Ledger) (b : List ℕ) (i : ℕ) → (posted l b).answer.number ≡ 0 → (entry_of b).kind ≡ 9
    → get_or (posted l b).answer.reports i quiet ≡ report_of l.is_new l.terms (entry_of b) (account_at l i)
month_reported l b i z nine = ap (λ (p : Posted). get_or p.answer.reports i quiet) (month_closed l b nine z) ∙ account_reported l (entry_of b) i

-- ---- the forfeit in it

module _ (l : Ledger) (e : Entry) (i : ℕ) (nine : e.kind ≡ 9) (o : (account_at l i).opened ≡ true) where
  abbrev due : ℕ
  due = excess_in l e.date i

  as_month : closing_of l.is_new l.terms e (account_at l i) ≡ month_closing l.is_new e.date l.terms (prices_of e) (account_at l i)
  unfolding closing_of lookup
  as_month = cc o

  reported_forfeit : (report_of l.is_new l.terms e (account_at l i)).forfeit.0 ≡ cond l.is_new (min (account_at l i).today.confiscation.0 due) due
  unfolding report_of month_closing forfeit_at excess_in
  reported_forfeit =
      ap (λ (c : Closed). c.report.forfeit.0) as_month
      ∙ forfeit_value l.is_new (account_at l i).today.confiscation (excess_at e.date l.terms (after_day e.date (account_at l i)))

pub forfeits_by_rule : ForfeitsByRule
forfeits_by_rule l b i z nine o = ap (λ (r : Report). r.forfeit.0) (month_reported l b i z nine) ∙ reported_forfeit l (entry_of b) i nine o
