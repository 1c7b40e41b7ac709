-- A closing account by account: what was closed so far and the accounts still to come. An account that is not open changes nothing in either.
use native.Mathlib.Omega.{arith}
use mathlib.Core.Path.{◌∙◌, ◌≡◌, ap, refl, sym}
use mathlib.Core.Bool.{Bool, ◌&&◌, false, true}
use Rattle.std.specs.Prelude.{⊤, Err, MatchResult, Ok, Result}
use Prim.Native.Nat.{ℕ, ◌+◌, ◌<◌, ◌≤◌}
use lib.ListN.{drop, get_or, get_or-replicate, length, replicate, set}
use Rattle.ledger.proofs.Lists.{ahead, every_end, every_next, every_pass, filled, filled_end, filled_kept, filled_next}
use Rattle.ledger.specs.Answers.{quiet}
use Rattle.ledger.specs.Closing.{after_closing, closing_of, left_alone, ready, report_of, stays_in_range}
use Rattle.ledger.specs.Checks.{verdict}
use Rattle.ledger.specs.Closings.{Closes, closed, closing_checks}
use Rattle.ledger.specs.Refusals.{number}
use Rattle.ledger.specs.Ranges.{account_in_range, every_account}
use Rattle.ledger.specs.State.{account_at, held_in, nobody}
use Rattle.tariff.specs.Dates.{last_of_month}
use Rattle.tariff.specs.Holidays.{on_measurement_day}
use mathlib.Core.List.{List}
use Rattle.ledger.specs.declared.refusals.Refusal.{Refusal}
use Rattle.ledger.specs.declared.refusals.Refusal.TheVariants.{Incomplete, LeavesRange}
use Rattle.ledger.specs.Structs.{Account, Closed, Entry, Ledger, Report}

-- ---- what the loop carries, with i accounts behind it

module _ (l : Ledger) (e : Entry) (i : ℕ) where
  abbrev pub accounts_to : List Account
  accounts_to = filled (after_closing l.is_new l.terms e) l.accounts l.accounts i

  abbrev pub reports_to : List Report
  reports_to = filled (report_of l.is_new l.terms e) l.accounts (replicate 16 quiet) i

abbrev pub Agrees : Ledger → ℕ → (Account → Bool) → Bool → Type 0
Agrees l i p so_far = so_far && every_account p (drop i l.accounts) ≡ every_account p l.accounts

-- where an account left its range, the outcome says so, and so does the rule
abbrev pub Stays : Ledger → Entry → ℕ → Result ⊤ Refusal → Type 0
Stays l e i outcome =
    MatchResult outcome
    (λ _. Agrees l i (stays_in_range l.is_new l.terms e) true)
    (λ f. (f ≡ LeavesRange) × (every_account (stays_in_range l.is_new l.terms e) l.accounts ≡ false))

abbrev pub Ready : Ledger → Entry → Account → Bool
Ready l e = ready (last_of_month e.date) (on_measurement_day (held_in l) e.date)

-- ---- one account further

module _ (l : Ledger) (e : Entry) (i : ℕ) (n : length l.accounts ≡ 16) (h : i < 16) where
  pub here : (xs : List Account) → xs ≡ accounts_to l e i → get_or xs i nobody ≡ account_at l i
  unfolding account_at
  here xs p = rw p (ahead (after_closing l.is_new l.terms e) l.accounts i nobody (omega arith))

  module _ (a : Account) (at : a ≡ account_at l i) where
    -- an account lacks something
    pub lacking : (had ends reads : Bool) → Agrees l i (Ready l e) true → had ≡ ready ends reads a → ends ≡ last_of_month e.date → reads ≡ on_measurement_day (held_in l) e.date → had ≡ false
        → every_account (Ready l e) l.accounts ≡ false
    unfolding account_at
    lacking had ends reads v x y z f = cc (every_next (Ready l e) l.accounts i nobody true (omega arith))

    -- an open account is closed
    pub open_stored : (xs r : List Account) (one : Closed) → r ≡ set xs i one.account → xs ≡ accounts_to l e i → one ≡ closing_of l.is_new l.terms e a → r ≡ accounts_to l e (i + 1)
    unfolding account_at after_closing
    open_stored xs r one q v p = cc (filled_next (after_closing l.is_new l.terms e) l.accounts l.accounts i nobody refl (omega arith))

    pub open_reported : (reports r : List Report) (one : Closed) → r ≡ set reports i one.report → reports ≡ reports_to l e i → one ≡ closing_of l.is_new l.terms e a → r ≡ reports_to l e (i + 1)
    unfolding account_at report_of
    open_reported reports r one q v p = cc (filled_next (report_of l.is_new l.terms e) l.accounts (replicate 16 quiet) i nobody (omega arith) (omega arith))

    pub open_complete : (had ends reads : Bool) → Agrees l i (Ready l e) true → had ≡ ready ends reads a → ends ≡ last_of_month e.date → reads ≡ on_measurement_day (held_in l) e.date → had ≡ true
        → Agrees l (i + 1) (Ready l e) true
    unfolding account_at
    open_complete had ends reads v x y z f = cc (every_next (Ready l e) l.accounts i nobody true (omega arith))

    pub next_stays : (day end : Bool) (one : Closed) → day ≡ account_in_range one.day → end ≡ account_in_range one.account → one ≡ closing_of l.is_new l.terms e a
        → every_account (stays_in_range l.is_new l.terms e) (drop i l.accounts) ≡ (day && end) && every_account (stays_in_range l.is_new l.terms e) (drop (i + 1) l.accounts)
    unfolding account_at stays_in_range
    next_stays day end one x y p = cc (every_next (stays_in_range l.is_new l.terms e) l.accounts i nobody true (omega arith))

    -- one that is not open stays as it is, lacks nothing, and has nothing to report
    module _ (o : a.opened ≡ false) where
      shut : closing_of l.is_new l.terms e a ≡ left_alone a
      unfolding closing_of
      shut = rw o

      pub shut_stored : (xs r : List Account) → xs ≡ accounts_to l e i → r ≡ set xs i a → r ≡ accounts_to l e (i + 1)
      unfolding left_alone
      shut_stored xs r v q = open_stored xs r (left_alone a) q v (sym shut)

      pub shut_reported : (reports r : List Report) → reports ≡ reports_to l e i → r ≡ reports → r ≡ reports_to l e (i + 1)
      unfolding account_at report_of left_alone
      shut_reported reports r v q =
          q
          ∙ v
          ∙ filled_kept (report_of l.is_new l.terms e) l.accounts (replicate 16 quiet) i nobody quiet (omega arith) (omega arith) (cc (ap (λ (c : Closed). c.report) shut, get_or-replicate 16 i quiet quiet h))

      pub shut_complete : Agrees l i (Ready l e) true → Agrees l (i + 1) (Ready l e) true
      unfolding account_at ready
      shut_complete v = cc (every_pass (Ready l e) l.accounts i nobody true (omega arith) (rw (sym at, o)))

      shut_in_range : account_in_range a ≡ true → stays_in_range l.is_new l.terms e (account_at l i) ≡ true
      unfolding stays_in_range left_alone
      shut_in_range x = rw (sym at, shut, x)

      pub shut_stays : (outcome : Result ⊤ Refusal) → account_in_range a ≡ true → Stays l e i outcome → Stays l e (i + 1) outcome
      unfolding account_at
      shut_stays (Ok _) x v = cc (every_pass (stays_in_range l.is_new l.terms e) l.accounts i nobody true (omega arith) (shut_in_range x))
      shut_stays (Err f) x v = v

-- ---- what an open account finds

module _ (l : Ledger) (e : Entry) (i : ℕ) (stays : Bool)
    (next : every_account (stays_in_range l.is_new l.terms e) (drop i l.accounts) ≡ stays && every_account (stays_in_range l.is_new l.terms e) (drop (i + 1) l.accounts)) where
  stays_on : (outcome : Result ⊤ Refusal) → Stays l e i outcome → stays ≡ true → Stays l e (i + 1) outcome
  stays_on (Ok _) v t = cc
  stays_on (Err f) v t = v

  has_left : (outcome : Result ⊤ Refusal) → Stays l e i outcome → stays ≡ false → every_account (stays_in_range l.is_new l.terms e) l.accounts ≡ false
  has_left (Ok _) v t = cc
  has_left (Err f) v t = v.1

  pub goes_on : (outcome r : Result ⊤ Refusal) → r ≡ outcome → Stays l e i outcome → stays ≡ true → Stays l e (i + 1) r
  goes_on outcome r p v t = rw p (stays_on outcome v t)

  pub leaves : (outcome r : Result ⊤ Refusal) → r ≡ Err LeavesRange → Stays l e i outcome → stays ≡ false → Stays l e (i + 1) r
  leaves outcome r p v t = rw p (refl, has_left outcome v t)

-- ---- the end

module _ (l : Ledger) (e : Entry) where
  pub incomplete : every_account (Ready l e) l.accounts ≡ false → verdict (closing_checks l e) ≡ number Incomplete
  unfolding closing_checks verdict number
  incomplete v = rw v

  pub all_closed : (i : ℕ) → length l.accounts ≡ 16 → 16 ≤ i → (xs : List Account) → xs ≡ accounts_to l e i → (reports : List Report) → reports ≡ reports_to l e i
      → Agrees l i (Ready l e) true → (outcome : Result ⊤ Refusal) → Stays l e i outcome → Closes outcome l e xs reports
  unfolding closing_checks closed verdict number
  all_closed i n h xs p reports q v (Ok _) s = (
    cc (every_end (Ready l e) l.accounts i true (omega arith), every_end (stays_in_range l.is_new l.terms e) l.accounts i true (omega arith)),
    p ∙ filled_end (after_closing l.is_new l.terms e) l.accounts l.accounts i (omega arith) (omega arith),
    q ∙ filled_end (report_of l.is_new l.terms e) l.accounts (replicate 16 quiet) i (omega arith) (omega arith),
  )
  all_closed i n h xs p reports q v (Err f) s = cc (every_end (Ready l e) l.accounts i true (omega arith))
