-- One posting, whatever it answers: a refusal leaves the ledger, and an acceptance adds to each account what its kind and its reports say. The sums over lists stand on this.
use Prim.Native.Nat.{ℕ, ◌<◌, ◌≤◌}
use mathlib.Core.Path.{◌≡◌, refl, sym, ap, ◌∙◌, subst}
use mathlib.Core.Bool.{Bool, true, false, cond, ◌&&◌, ◌||◌, true≢false, false≢true}
use mathlib.Core.List.{List}
use native.Mathlib.Omega.{arith}
use lib.Dec.{eqb}
use lib.IntN.{ℤ, pos, neg_ℤ, ◌+ℤ◌, ◌-ℤ◌, +ℤ_idr, +ℤ_idl}
use lib.ListN.{length, get_or, set, length-set}
use lib.Seq.{get_or-set_same, get_or-set_other}
use borrow.Author.Tests.{eqb-true, eqb-false}
use Rattle.tariff.proofs.Bools.{either}
use Rattle.ledger.specs.Entries.{entry_of, company_sells, writer_takes}
use Rattle.ledger.specs.State.{nobody, account_at, no_notice, with_account}
use Rattle.ledger.specs.Ranges.{account_in_range, in_range}
use Rattle.ledger.specs.Answers.{quiet, plain, refused, settle}
use Rattle.ledger.specs.Deliver.{amount_under}
use Rattle.ledger.specs.Notice.{meets, written}
use Rattle.ledger.specs.Panel.{open_bank, bank_of}
use Rattle.ledger.specs.Structs.{Account, Answer, Entry, Ledger, Notice, Posted, Report}
use Rattle.ledger.proofs.Bounded.{ranged_parts, ranged_whole}
use Rattle.ledger.proofs.Lists.{every_set}
use Rattle.ledger.proofs.ClosedAccounts.{open_owed, open_days, report_moves, report_days}

-- what holds of every ledger on the way from a fresh one
pub record Sound (l : Ledger) : Type 0 where
  pub sized : length l.accounts ≡ 16
  pub ranged : in_range l ≡ true

-- of two letters, who takes the gas and who gives it
abbrev pub taker_of : Entry → ℕ
taker_of e = cond (writer_takes e) e.a e.b

abbrev pub giver_of : Entry → ℕ
giver_of e = cond (writer_takes e) e.b e.a

-- what a posting of a kind adds to the bank of account i
abbrev pub gain_at : ℕ → Ledger → Entry → Answer → ℕ → ℤ
gain_at kind l e x i =
    cond (eqb kind 2) (cond (eqb e.a i) (pos e.w2) (pos 0))
    (cond (eqb kind 3) (cond (eqb e.a i) (amount_under l.terms.retainage e).0 (pos 0))
    (cond (eqb kind 4) (cond (eqb e.b i) (pos e.w1) (pos 0) -ℤ cond (eqb e.a i) (pos e.w1) (pos 0))
    (cond (eqb kind 5) (cond (eqb e.a i) (cond (company_sells e) (pos e.w1) (neg_ℤ (pos e.w1))) (pos 0))
    (cond (eqb kind 8 || eqb kind 9) (report_moves (get_or x.reports i quiet))
    (cond (eqb kind 12) (cond (meets l e) (cond (eqb (taker_of e) i) (pos e.w1) (pos 0) -ℤ cond (eqb (giver_of e) i) (pos e.w1) (pos 0)) (pos 0)) (pos 0))))))

-- what it reports of account i: only closings report
abbrev pub report_at : ℕ → Answer → ℕ → Report
report_at kind x i = cond (eqb kind 8 || eqb kind 9) (get_or x.reports i quiet) quiet

-- the notice of account i, before a posting of a kind and after it
abbrev pub notice_of : Ledger → ℕ → Notice
notice_of l i = (account_at l i).today.notice

abbrev pub notice_at : ℕ → Ledger → Entry → ℕ → Notice
notice_at kind l e i =
    cond (eqb kind 2) (cond (eqb e.a i) no_notice (notice_of l i))
    (cond (eqb kind 8 || eqb kind 9) (cond (account_at l i).opened no_notice (notice_of l i))
    (cond (eqb kind 12) (cond (meets l e) (cond (eqb e.b i) no_notice (notice_of l i)) (cond (eqb e.a i) (written e) (notice_of l i)))
    (notice_of l i)))

-- what was asked of an accepted letter
pub record Asked (l : Ledger) (e : Entry) : Type 0 where
  pub writer : e.a < 16
  pub other : e.b < 16
  pub apart : e.a ≡ e.b → ⊥
  pub flags : e.flags ≤ 1
  pub opened : ((account_at l e.a).opened ≡ true) × ((account_at l e.b).opened ≡ true)
  pub silent : (notice_of l e.a).stands ≡ false

-- which notices stand and which accounts are open afterwards
pub record Letters (kind : ℕ) (l : Ledger) (e : Entry) (next : Ledger) : Type 0 where
  pub notices : (i : ℕ) → notice_of next i ≡ notice_at kind l e i
  pub opens : (i : ℕ) → (account_at next i).opened ≡ cond (eqb kind 2 && eqb e.a i) true (account_at l i).opened
  pub enrols : kind ≡ 2 → (account_at l e.a).opened ≡ false
  pub asked : kind ≡ 12 → Asked l e

-- an accepted posting makes the next ledger, and adds what its entry and its answer say
pub record Taken (l : Ledger) (e : Entry) (x : Answer) (next : Ledger) : Type 0 where
  pub sound : Sound next
  pub banks : (i : ℕ) → bank_of next i ≡ bank_of l i +ℤ gain_at e.kind l e x i
  pub debts : (i : ℕ) → open_owed (account_at next i) ≡ open_owed (account_at l i) +ℤ (report_at e.kind x i).bill.0
  pub days : (i : ℕ) → open_days (account_at next i) ≡ open_days (account_at l i) +ℤ report_days (report_at e.kind x i)
  pub retainage : next.terms.retainage ≡ cond (eqb e.kind 1) e.w4 l.terms.retainage
  pub started : eqb e.kind 1 ≡ false → l.begun ≡ true
  pub parties : e.kind ≡ 4 → (e.a < 16) × (e.b < 16)
  pub letters : Letters e.kind l e next

pub record Step (l : Ledger) (b : List ℕ) (p : Posted) : Type 0 where
  pub kept : eqb p.answer.number 0 ≡ false → p.ledger ≡ l
  pub taken : eqb p.answer.number 0 ≡ true → Taken l (entry_of b) p.answer p.ledger

module _ (l : Ledger) (b : List ℕ) where
  pub step_refused : (n : ℕ) → eqb n 0 ≡ false → Step l b (refused l n)
  unfolding refused plain
  step_refused n h = record { kept = λ _. refl; taken = λ z. absurd (false≢true (sym h ∙ z)) }

  pub step_settle : (n : ℕ) (next : Ledger) → (n ≡ 0 → Taken l (entry_of b) (plain 0) next) → Step l b (settle l n next)
  unfolding settle refused plain
  step_settle n next f =
      either (λ (m : Ledger). Step l b (record { answer = plain n; ledger = m })) (eqb n 0) next l
      (λ z. record { kept = λ y. absurd (true≢false (sym z ∙ y)); taken = λ _. rw (eqb-true n 0 z) (f (eqb-true n 0 z)) })
      (step_refused n)

-- ---- one account anew

module _ (l : Ledger) (a : ℕ) (v : Account) (n : length l.accounts ≡ 16) (h : a < 16) where
  pub size_stored : length (with_account l a v).accounts ≡ 16
  unfolding with_account
  size_stored = length-set l.accounts a v ∙ n

  pub account_stored : (i : ℕ) → account_at (with_account l a v) i ≡ cond (eqb a i) v (account_at l i)
  unfolding with_account account_at
  account_stored i = go (eqb a i) refl
    where
      go : (t : Bool) → eqb a i ≡ t → get_or (set l.accounts a v) i nobody ≡ cond t v (get_or l.accounts i nobody)
      go true e = rw (← eqb-true a i e) (get_or-set_same l.accounts a v nobody (omega arith))
      go false e = get_or-set_other l.accounts a i v nobody (λ z. eqb-false a i e (sym z))

  pub ranged_stored : in_range l ≡ true → account_in_range v ≡ true → in_range (with_account l a v) ≡ true
  unfolding with_account
  ranged_stored r w =
      let p = ranged_parts l r in
      ranged_whole (with_account l a v) (record { dated = p.dated; held = p.held; accounts = every_set account_in_range l.accounts a v w p.accounts })

  -- a number of the account that grew by y
  pub grown : (f : Account → ℤ) (y : ℤ) → f v ≡ f (account_at l a) +ℤ y → (i : ℕ) → f (account_at (with_account l a v) i) ≡ f (account_at l i) +ℤ cond (eqb a i) y (pos 0)
  grown f y g i = ap f (account_stored i) ∙ go (eqb a i) refl
    where
      go : (t : Bool) → eqb a i ≡ t → f (cond t v (account_at l i)) ≡ f (account_at l i) +ℤ cond t y (pos 0)
      go true e = rw (← eqb-true a i e) g
      go false e = sym (+ℤ_idr (f (account_at l i)))

  -- one that stayed
  pub stayed : {A : Type 0} (f : Account → A) → f v ≡ f (account_at l a) → (i : ℕ) → f (account_at (with_account l a v) i) ≡ f (account_at l i)
  stayed f g i = ap f (account_stored i) ∙ go (eqb a i) refl
    where
      go : (t : Bool) → eqb a i ≡ t → f (cond t v (account_at l i)) ≡ f (account_at l i)
      go true e = rw (← eqb-true a i e) g
      go false e = refl

-- ---- two accounts anew

module _ (l : Ledger) (a b : ℕ) (v w : Account) (n : length l.accounts ≡ 16) (ha : a < 16) (hb : b < 16) where
  abbrev half : Ledger
  half = with_account l a v

  pub pair_size : length (with_account (with_account l a v) b w).accounts ≡ 16
  pair_size = size_stored half b w (size_stored l a v n ha) hb

  pub pair_stored : (i : ℕ) → account_at (with_account (with_account l a v) b w) i ≡ cond (eqb b i) w (cond (eqb a i) v (account_at l i))
  pair_stored i = account_stored half b w (size_stored l a v n ha) hb i ∙ ap (λ (c : Account). cond (eqb b i) w c) (account_stored l a v n ha i)

  -- what stayed in both
  pub pair_stayed : {A : Type 0} (f : Account → A) → f v ≡ f (account_at l a) → f w ≡ f (account_at l b) → (i : ℕ)
      → f (account_at (with_account (with_account l a v) b w) i) ≡ f (account_at l i)
  pair_stayed f p q i = ap f (pair_stored i) ∙ go (eqb b i) (eqb a i) refl refl
    where
      go : (t u : Bool) → eqb b i ≡ t → eqb a i ≡ u → f (cond t w (cond u v (account_at l i))) ≡ f (account_at l i)
      go true u x y = rw (← eqb-true b i x) q
      go false true x y = rw (← eqb-true a i y) p
      go false false x y = refl

-- ---- a kind n that leaves letters and accounts open as they were

pub untouched : (n : ℕ) (l : Ledger) (e : Entry) (next : Ledger) → eqb n 2 ≡ false → eqb n 8 || eqb n 9 ≡ false → eqb n 12 ≡ false
    → ((i : ℕ) → notice_of next i ≡ notice_of l i) → ((i : ℕ) → (account_at next i).opened ≡ (account_at l i).opened) → Letters n l e next
untouched n l e next no_enrol no_closing no_letter notices opens =
    record {
      notices = λ i. notices i ∙ rw (no_enrol, no_closing, no_letter);
      opens = λ i. opens i ∙ rw no_enrol;
      enrols = λ z. absurd (eqb-false n 2 no_enrol z);
      asked = λ z. absurd (eqb-false n 12 no_letter z);
    }

-- ---- a kind n that is no closing

module _ (e : Entry) (n : ℕ) (is : e.kind ≡ n) (no_closing : eqb n 8 || eqb n 9 ≡ false) where
  no_report : (i : ℕ) → report_at e.kind (plain 0) i ≡ quiet
  no_report i = ap (λ (m : ℕ). report_at m (plain 0) i) is ∙ rw no_closing

  pub same_debt : (i : ℕ) (z : ℤ) → z ≡ z +ℤ (report_at e.kind (plain 0) i).bill.0
  unfolding quiet
  same_debt i z = sym (ap (λ (r : Report). z +ℤ r.bill.0) (no_report i) ∙ +ℤ_idr z)

  pub same_days : (i : ℕ) (z : ℤ) → z ≡ z +ℤ report_days (report_at e.kind (plain 0) i)
  unfolding quiet
  same_days i z = sym (ap (λ (r : Report). z +ℤ report_days r) (no_report i) ∙ +ℤ_idr z)

  -- one that leaves the terms
  pub same_rate : (l next : Ledger) → eqb n 1 ≡ false → next.terms ≡ l.terms → next.terms.retainage ≡ cond (eqb e.kind 1) e.w4 l.terms.retainage
  same_rate l next f q = ap (λ t. t.retainage) q ∙ sym (ap (λ (m : ℕ). cond (eqb m 1) e.w4 l.terms.retainage) is ∙ rw f)

  pub lettered : (l next : Ledger) → Letters n l e next → Letters e.kind l e next
  lettered l next t = subst (λ (m : ℕ). Letters m l e next) (sym is) t

  -- one that stores no account
  pub leaves : (l next : Ledger) → eqb n 1 ≡ false → eqb n 2 ≡ false → eqb n 4 ≡ false → eqb n 12 ≡ false → l.begun ≡ true → Sound next → next.accounts ≡ l.accounts → next.terms ≡ l.terms
      → ((i : ℕ) → gain_at n l e (plain 0) i ≡ pos 0) → Taken l e (plain 0) next
  unfolding bank_of
  leaves l next no_terms no_enrol no_transfer no_letter begun sound accounts terms nothing =
      record {
        sound = sound;
        banks = λ i. ap open_bank (same i) ∙ sym (ap (λ (z : ℤ). open_bank (account_at l i) +ℤ z) (ap (λ (m : ℕ). gain_at m l e (plain 0) i) is ∙ nothing i) ∙ +ℤ_idr (open_bank (account_at l i)));
        debts = λ i. ap open_owed (same i) ∙ same_debt i (open_owed (account_at l i));
        days = λ i. ap open_days (same i) ∙ same_days i (open_days (account_at l i));
        retainage = same_rate l next no_terms terms;
        started = λ _. begun;
        parties = λ z. absurd (eqb-false n 4 no_transfer (sym is ∙ z));
        letters =
            lettered l next
            (untouched n l e next no_enrol no_closing no_letter (λ i. ap (λ (a : Account). a.today.notice) (same i)) (λ i. ap (λ (a : Account). a.opened) (same i)));
      }
    where
      same : (i : ℕ) → account_at next i ≡ account_at l i
      same i = unfold account_at in ap (λ (xs : List Account). get_or xs i nobody) accounts

  -- one that stores one account, whose bank grows by y
  pub stores : (l : Ledger) (v : Account) (y : ℤ) → eqb n 1 ≡ false → eqb n 4 ≡ false → Sound l → l.begun ≡ true → e.a < 16 → account_in_range v ≡ true
      → open_bank v ≡ open_bank (account_at l e.a) +ℤ y
      → open_owed v ≡ open_owed (account_at l e.a)
      → open_days v ≡ open_days (account_at l e.a)
      → ((i : ℕ) → gain_at n l e (plain 0) i ≡ cond (eqb e.a i) y (pos 0))
      → Letters n l e (with_account l e.a v)
      → Taken l e (plain 0) (with_account l e.a v)
  unfolding bank_of
  stores l v y no_terms no_transfer s begun h w g o d m t =
      let a = e.a in
      record {
        sound = record { sized = size_stored l a v s.sized h; ranged = ranged_stored l a v s.sized h s.ranged w };
        banks = λ i. grown l a v s.sized h open_bank y g i ∙ ap (λ (z : ℤ). open_bank (account_at l i) +ℤ z) (sym (ap (λ (m : ℕ). gain_at m l e (plain 0) i) is ∙ m i));
        debts = λ i. stayed l a v s.sized h open_owed o i ∙ same_debt i (open_owed (account_at l i));
        days = λ i. stayed l a v s.sized h open_days d i ∙ same_days i (open_days (account_at l i));
        retainage = same_rate l (with_account l a v) no_terms (unfold with_account in refl);
        started = λ _. begun;
        parties = λ z. absurd (eqb-false n 4 no_transfer (sym is ∙ z));
        letters = lettered l (with_account l a v) t;
      }

  -- one account anew that keeps its letter and opens nothing
  pub keeps_letters : (l : Ledger) (v : Account) → eqb n 2 ≡ false → eqb n 12 ≡ false → Sound l → e.a < 16 → v.today.notice ≡ notice_of l e.a → v.opened ≡ (account_at l e.a).opened
      → Letters n l e (with_account l e.a v)
  keeps_letters l v no_enrol no_letter s h p q =
      untouched n l e (with_account l e.a v) no_enrol no_closing no_letter (stayed l e.a v s.sized h (λ (a : Account). a.today.notice) p) (stayed l e.a v s.sized h (λ (a : Account). a.opened) q)

  -- one that stores two, of which the first gives y to the second
  pub pairs : (l : Ledger) (v w : Account) (y : ℤ) → eqb n 1 ≡ false → Sound l → l.begun ≡ true → e.a < 16 → e.b < 16 → (e.a ≡ e.b → ⊥)
      → account_in_range v ≡ true → account_in_range w ≡ true
      → open_bank v ≡ open_bank (account_at l e.a) +ℤ neg_ℤ y → open_bank w ≡ open_bank (account_at l e.b) +ℤ y
      → open_owed v ≡ open_owed (account_at l e.a) → open_owed w ≡ open_owed (account_at l e.b)
      → open_days v ≡ open_days (account_at l e.a) → open_days w ≡ open_days (account_at l e.b)
      → ((i : ℕ) → gain_at n l e (plain 0) i ≡ cond (eqb e.b i) y (pos 0) -ℤ cond (eqb e.a i) y (pos 0))
      → Letters n l e (with_account (with_account l e.a v) e.b w)
      → Taken l e (plain 0) (with_account (with_account l e.a v) e.b w)
  unfolding bank_of
  pairs l v w y no_terms s begun ha hb apart rv rw' bv bw ov ow dv dw m t =
      record {
        sound =
            record {
              sized = pair_size l e.a e.b v w s.sized ha hb;
              ranged = ranged_stored half e.b w (size_stored l e.a v s.sized ha) hb (ranged_stored l e.a v s.sized ha s.ranged rv) rw';
            };
        banks = λ i. ap open_bank (pair_stored l e.a e.b v w s.sized ha hb i) ∙ moves i (eqb e.b i) (eqb e.a i) refl refl ∙ ap (λ (z : ℤ). open_bank (account_at l i) +ℤ z) (sym (ap (λ (k : ℕ). gain_at k l e (plain 0) i) is ∙ m i));
        debts = λ i. pair_stayed l e.a e.b v w s.sized ha hb open_owed ov ow i ∙ same_debt i (open_owed (account_at l i));
        days = λ i. pair_stayed l e.a e.b v w s.sized ha hb open_days dv dw i ∙ same_days i (open_days (account_at l i));
        retainage = same_rate l (with_account half e.b w) no_terms (unfold with_account in refl);
        started = λ _. begun;
        parties = λ _. (ha, hb);
        letters = lettered l (with_account half e.b w) t;
      }
    where
      half : Ledger
      half = with_account l e.a v

      moves : (i : ℕ) (t u : Bool) → eqb e.b i ≡ t → eqb e.a i ≡ u
          → open_bank (cond t w (cond u v (account_at l i))) ≡ open_bank (account_at l i) +ℤ (cond t y (pos 0) -ℤ cond u y (pos 0))
      moves i true true p q = absurd (apart (eqb-true e.a i q ∙ sym (eqb-true e.b i p)))
      moves i true false p q = rw (← eqb-true e.b i p) (bw ∙ ap (λ (z : ℤ). open_bank (account_at l e.b) +ℤ z) (sym (+ℤ_idr y)))
      moves i false true p q = rw (← eqb-true e.a i q) (bv ∙ ap (λ (z : ℤ). open_bank (account_at l e.a) +ℤ z) (sym (+ℤ_idl (neg_ℤ y))))
      moves i false false p q = sym (+ℤ_idr (open_bank (account_at l i)))
