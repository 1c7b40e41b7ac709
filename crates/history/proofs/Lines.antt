-- What the sums count of a line is what the ledger says that its posting adds: both are told by the kind, and agree for every number that a kind can be.
use Prim.Native.Nat.{ℕ, ◌<◌}
use mathlib.Core.Path.{◌≡◌, refl, sym, ap, ◌∙◌}
use mathlib.Core.Bool.{Bool, true, false, cond, not, ◌&&◌}
use mathlib.Core.List.{List}
use native.Mathlib.Omega.{arith}
use mathlib.Core.Logic.{◌⊎◌, inl, inr}
use lib.Dec.{eqb, ltb}
use lib.IntN.{ℤ, pos, neg_ℤ, ◌-ℤ◌, +ℤ_idl, +ℤ_idr, +ℤ-neg_ℤ_cancel}
use lib.ListN.{length, get_or}
use borrow.Author.Tests.{eqb-true, ne_eqb}
use Rattle.tariff.proofs.Bools.{either}
use Rattle.tariff.specs.Amounts.{inward, outward}
use Rattle.ledger.specs.Entries.{entry_of, company_sells, writer_takes}
use Rattle.ledger.specs.Answers.{quiet}
use Rattle.ledger.specs.Deliver.{amount_under}
use Rattle.ledger.specs.Notice.{meets}
use Rattle.ledger.specs.Running.{Line}
use Rattle.ledger.specs.declared.state.Ledger.{Ledger}
use Rattle.ledger.specs.declared.answers.Report.{Report}
use Rattle.ledger.specs.declared.entries.Entry.{Entry}
use Rattle.ledger.proofs.ClosedAccounts.{quiet_in, quiet_out, quiet_forfeit, quiet_bill, quiet_mask}
use Rattle.ledger.proofs.OneStep.{gain_at, report_at}
use Rattle.history.specs.History.{entry, Known, start, Term, total, by_a, by_b, met, completes, taker, giver, opened_with, delivered_to, sold_to, bought_from, transferred_to, transferred_from, closes, reported, cashed_in, cashed_out, forfeited, billed, violated, bank_sum, over_first, of_all, figure_sum, OnlyClosingsCount}
use Rattle.history.proofs.Sums.{chain, total_chain, over_chain, only_one}

-- what a line moves for account i, and for all accounts together where its transfers balance
unfoldable pub moved : ℕ → Term
moved i k x = chain (opened_with i k x) (delivered_to i k x) (sold_to i k x) (bought_from i k x) (transferred_to i k x) (transferred_from i k x) (cashed_in i k x) (cashed_out i k x) (forfeited i k x)

none : Term
none k x = pos 0

pub figured : Term
figured k x = chain (of_all opened_with k x) (of_all delivered_to k x) (of_all sold_to k x) (of_all bought_from k x) (none k x) (none k x) (of_all cashed_in k x) (of_all cashed_out k x) (of_all forfeited k x)

pub moved_sum : (i : ℕ) (xs : List Line) → total (moved i) start xs ≡ bank_sum i xs
unfolding moved bank_sum
moved_sum i xs = total_chain (opened_with i) (delivered_to i) (sold_to i) (bought_from i) (transferred_to i) (transferred_from i) (cashed_in i) (cashed_out i) (forfeited i) start xs

pub figured_sum : (xs : List Line) → total figured start xs ≡ figure_sum xs
unfolding figured figure_sum
figured_sum xs =
    total_chain (of_all opened_with) (of_all delivered_to) (of_all sold_to) (of_all bought_from) none none (of_all cashed_in) (of_all cashed_out) (of_all forfeited) start xs
    ∙ rw +ℤ-neg_ℤ_cancel

pub moved_figured : (k : Known) (x : Line) → of_all transferred_to k x ≡ of_all transferred_from k x → of_all moved k x ≡ figured k x
unfolding moved figured of_all
moved_figured k x h =
    rw (
      over_chain 16 (λ i. opened_with i k x) (λ i. delivered_to i k x) (λ i. sold_to i k x) (λ i. bought_from i k x) (λ i. transferred_to i k x) (λ i. transferred_from i k x) (λ i. cashed_in i k x) (λ i. cashed_out i k x) (λ i. forfeited i k x),
      h,
    )
    (simp +ℤ-neg_ℤ_cancel)

-- ---- only closings count

no_closing : (x : Line) → ((entry x).kind ≡ 8 → ⊥) → ((entry x).kind ≡ 9 → ⊥) → closes x ≡ false
unfolding closes
no_closing x d8 d9 = rw (ne_eqb (entry x).kind 8 d8, ne_eqb (entry x).kind 9 d9)

no_report : (i : ℕ) (x : Line) → ((entry x).kind ≡ 8 → ⊥) → ((entry x).kind ≡ 9 → ⊥) → reported i x ≡ quiet
unfolding reported
no_report i x d8 d9 = ap (λ (t : Bool). cond t (get_or x.answer.reports i quiet) quiet) (no_closing x d8 d9)

pub only_closings_count : OnlyClosingsCount
unfolding cashed_in cashed_out forfeited billed violated
only_closings_count i k x d8 d9 =
    let none = no_report i x d8 d9 in (
      ap (λ (r : Report). pos (inward r.cash).0) none ∙ ap pos quiet_in,
      ap (λ (r : Report). pos (outward r.cash).0) none ∙ ap pos quiet_out,
      ap (λ (r : Report). pos r.forfeit.0) none ∙ ap pos quiet_forfeit,
      ap (λ (r : Report). r.bill.0) none ∙ quiet_bill,
      ap (λ (r : Report). cond (eqb r.mask 0) (pos 0) (pos 1)) none ∙ rw quiet_mask,
    )

-- ---- a line of any kind

-- a property of kinds: at one kind, and at those that are another
pub at_kind : (P : ℕ → Type 0) (n m : ℕ) → P m → (eqb n m ≡ false → P n) → P n
at_kind P n m p q = go (eqb n m) refl
  where
    go : (t : Bool) → eqb n m ≡ t → P n
    go true z = rw (eqb-true n m z) p
    go false z = q z

-- at each kind that moves gas, and at all others
by_kind : (P : ℕ → Type 0) → P 2 → P 3 → P 4 → P 5 → P 8 → P 9 → P 12
    → ((n : ℕ) → eqb n 2 ≡ false → eqb n 3 ≡ false → eqb n 4 ≡ false → eqb n 5 ≡ false → eqb n 8 ≡ false → eqb n 9 ≡ false → eqb n 12 ≡ false → P n) → (n : ℕ) → P n
by_kind P p2 p3 p4 p5 p8 p9 p12 others n =
    at 2 p2 (λ d2. at 3 p3 (λ d3. at 4 p4 (λ d4. at 5 p5 (λ d5. at 8 p8 (λ d8. at 9 p9 (λ d9. at 12 p12 (λ d12. others n d2 d3 d4 d5 d8 d9 d12)))))))
  where
    at : (m : ℕ) → P m → (eqb n m ≡ false → P n) → P n
    at = at_kind P n

ruleset zeros = (quiet_in, quiet_out, quiet_forfeit, +ℤ_idl, +ℤ_idr)

by_side : (t u : Bool) (w : ℤ) → cond (t && u) w (pos 0) -ℤ cond (t && not u) w (pos 0) ≡ cond t (cond u w (neg_ℤ w)) (pos 0)
by_side true true w = +ℤ_idr w
by_side true false w = +ℤ_idl (neg_ℤ w)
by_side false u w = refl

by_pair : (t u v : Bool) (w : ℤ) → cond (t && u) w (pos 0) -ℤ cond (t && v) w (pos 0) ≡ cond t (cond u w (pos 0) -ℤ cond v w (pos 0)) (pos 0)
by_pair true u v w = refl
by_pair false u v w = refl

module _ (k : Known) (x : Line) where
  abbrev e : Entry
  e = entry_of x.bytes

  -- whether a letter with the line's fields answers one that stands
  abbrev answers : Bool
  answers = ltb 0 (length (met e k.standing))

  module _ (l : Ledger) (i : ℕ) where
    abbrev moved_by : ℕ → ℤ
    moved_by n =
        chain (cond (eqb n 2 && eqb e.a i) (pos e.w2) (pos 0))
        (cond (eqb n 3 && eqb e.a i) (amount_under k.retainage e).0 (pos 0))
        (cond ((eqb n 5 && eqb e.a i) && company_sells e) (pos e.w1) (pos 0))
        (cond ((eqb n 5 && eqb e.a i) && not (company_sells e)) (pos e.w1) (pos 0))
        (cond (eqb n 4 && eqb e.b i) (pos e.w1) (cond ((eqb n 12 && answers) && eqb (taker e) i) (pos e.w1) (pos 0)))
        (cond (eqb n 4 && eqb e.a i) (pos e.w1) (cond ((eqb n 12 && answers) && eqb (giver e) i) (pos e.w1) (pos 0)))
        (pos (inward (report_at n x.answer i).cash).0)
        (pos (outward (report_at n x.answer i).cash).0)
        (pos (report_at n x.answer i).forfeit.0)

    -- the R of a delivery is the ledger's, and so is the counterpart of a letter
    Agreed : ℕ → Type 0
    Agreed n = (n ≡ 3 → l.terms.retainage ≡ k.retainage) → (n ≡ 12 → meets l e ≡ answers) → moved_by n ≡ gain_at n l e x.answer i

    agreed : (n : ℕ) → Agreed n
    unfolding Agreed taker giver
    agreed =
        by_kind Agreed (λ r m. simp zeros) (λ r m. rw (r refl) (simp zeros)) (λ r m. simp zeros) (λ r m. simp zeros (by_side (eqb e.a i) (company_sells e) (pos e.w1)))
        (λ r m. simp +ℤ_idl) (λ r m. simp +ℤ_idl) (λ r m. rw (m refl) (simp zeros (by_pair answers (eqb (taker e) i) (eqb (giver e) i) (pos e.w1)))) (λ n d2 d3 d4 d5 d8 d9 d12 r m. rw (d2, d3, d4, d5, d8, d9, d12) (simp zeros))

    pub moved_is : (e.kind ≡ 3 → l.terms.retainage ≡ k.retainage) → (e.kind ≡ 12 → meets l e ≡ answers) → moved i k x ≡ gain_at e.kind l e x.answer i
    unfolding moved opened_with delivered_to sold_to bought_from transferred_to transferred_from cashed_in cashed_out forfeited completes reported closes by_a by_b entry Agreed
    moved_is = agreed e.kind

  -- what a transfer or a pair of letters takes from one account it brings to the other
  module _ (within : (e.kind ≡ 4) ⊎ (e.kind ≡ 12) → (e.a < 16) × (e.b < 16)) where
    one_of : (t : Bool) (i j : ℕ) → i < 16 → j < 16 → cond t i j < 16
    one_of t i j h g = either (λ (n : ℕ). n < 16) t i j (λ _. h) (λ _. g)

    pub balanced : of_all transferred_to k x ≡ of_all transferred_from k x
    unfolding of_all transferred_to transferred_from completes taker giver by_a by_b entry
    balanced = go (eqb e.kind 4) (eqb e.kind 12) answers refl refl
      where
        go : (t u c : Bool) → eqb e.kind 4 ≡ t → eqb e.kind 12 ≡ u
            → over_first 16 (λ i. cond (t && eqb e.b i) (pos e.w1) (cond ((u && c) && eqb (taker e) i) (pos e.w1) (pos 0)))
            ≡ over_first 16 (λ i. cond (t && eqb e.a i) (pos e.w1) (cond ((u && c) && eqb (giver e) i) (pos e.w1) (pos 0)))
        go true true c z y = absurd (omega (arith, eqb-true e.kind 4 z, eqb-true e.kind 12 y))
        go true false c z y = let h = within (inl (eqb-true e.kind 4 z)) in only_one e.b (pos e.w1) h.1 ∙ sym (only_one e.a (pos e.w1) h.0)
        go false true true z y =
            let h = within (inr (eqb-true e.kind 12 y)) in
            let t = writer_takes e in
            only_one (taker e) (pos e.w1) (one_of t e.a e.b h.0 h.1) ∙ sym (only_one (giver e) (pos e.w1) (one_of t e.b e.a h.1 h.0))
        go false true false z y = refl
        go false false c z y = refl
