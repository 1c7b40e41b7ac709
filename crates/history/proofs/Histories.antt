-- A list of postings is one posting after another: what each accepted one adds, by the ledger's law, the list adds in total.
use Prim.Native.Nat.{ℕ, ◌≤◌}
use mathlib.Core.Path.{◌≡◌, refl, sym, ap, ◌∙◌}
use mathlib.Core.Bool.{Bool, true, false, cond, not, ◌&&◌}
use mathlib.Core.List.{List, [], ◌∷◌}
use lib.Dec.{eqb}
use lib.IntN.{ℤ, pos, ◌+ℤ◌, +ℤ_idr, +ℤ_idl, +ℤ_assoc}
use lib.ListN.{length, get_or}
use borrow.Author.Tests.{not-true}
use Rattle.tariff.proofs.Bools.{either, and_right}
use Rattle.ledger.specs.State.{fresh, nobody}
use Rattle.ledger.specs.Posting.{posted}
use Rattle.ledger.specs.Panel.{open_bank, open_banks, bank_of}
use Rattle.ledger.specs.Running.{Line, history, run}
use Rattle.ledger.specs.declared.state.Ledger.{Ledger}
use Rattle.ledger.proofs.EveryPosting.{step}
use Rattle.ledger.proofs.FreshLedger.{fresh_bank, fresh_owed, fresh_days}
use Rattle.ledger.proofs.Figures.{panel_of_sound, bank_at}
use Rattle.history.specs.History.{accepted, Known, known, start, after, Term, total, billed, violated, over_first, of_all, figure_sum, owed_of, days_of, remaining, postings_of, BanksAddUp, PanelAddsUp, DebtsAddUp, DaysAddUp, StrikingChangesNothing, MovesOnce, PairsCross, moves, pairs, LettersStand}
use Rattle.history.proofs.Sums.{over_cong, over_add, banks_over}
use Rattle.history.proofs.Steps.{Reached, fresh_reached, Counted, counted}
use Rattle.history.proofs.Pairs.{most, none_moves, most_at_start, one_more, letters_of}
use Rattle.history.proofs.Lines.{moved, figured, moved_sum, figured_sum, moved_figured}

-- ---- whole lists

abbrev line : Ledger → List ℕ → Line
line l b = record { bytes = b; answer = (posted l b).answer }

accepts : (l : Ledger) (k : Known) (b : List ℕ) → Reached l k → eqb (posted l b).answer.number 0 ≡ true → Counted l k (line l b) (posted l b).ledger
accepts l k b s z = counted l k (line l b) (posted l b).ledger s ((step l b s.sound).taken z)

next_reached : (l : Ledger) (k : Known) (b : List ℕ) → Reached l k → (m : Known) × Reached (posted l b).ledger m
next_reached l k b s = go (eqb (posted l b).answer.number 0) refl
  where
    go : (t : Bool) → eqb (posted l b).answer.number 0 ≡ t → (m : Known) × Reached (posted l b).ledger m
    go true z = (after k (line l b), (accepts l k b s z).reached)
    go false z = (k, rw ((step l b s.sound).kept z) s)

-- the last ledger is reached with what the whole list tells
reached_known : (l : Ledger) (k : Known) (bs : List (List ℕ)) → Reached l k → Reached (run l bs) (known k (accepted (history l bs)))
unfolding accepted known
reached_known l k [] s = s
reached_known l k (b ∷ bs) s =
    either (λ (xs : List Line). Reached (run next bs) (known k xs)) (eqb (posted l b).answer.number 0) (x ∷ rest) rest
    (λ z. reached_known next (after k x) bs (accepts l k b s z).reached)
    (λ z. reached_known next k bs (rw ((step l b s.sound).kept z) s))
  where
    next : Ledger
    next = (posted l b).ledger

    x : Line
    x = line l b

    rest : List Line
    rest = accepted (history (posted l b).ledger bs)

from_fresh_reached : (new : Bool) (bs : List (List ℕ)) → Reached (run (fresh new) bs) (known start (accepted (history (fresh new) bs)))
from_fresh_reached new bs = reached_known (fresh new) start bs (fresh_reached new)

-- what every accepted posting raises by its term, a list of postings raises by the term's total
module _ (measure : Ledger → ℤ) (term : Term) (adds : (l : Ledger) (k : Known) (x : Line) (next : Ledger) → Counted l k x next → measure next ≡ measure l +ℤ term k x) where
  adds_up : (l : Ledger) (k : Known) (bs : List (List ℕ)) → Reached l k → measure (run l bs) ≡ measure l +ℤ total term k (accepted (history l bs))
  unfolding accepted total
  adds_up l k [] s = sym (+ℤ_idr (measure l))
  adds_up l k (b ∷ bs) s =
      either (λ (xs : List Line). measure (run next bs) ≡ measure l +ℤ total term k xs) (eqb (posted l b).answer.number 0) (x ∷ rest) rest
      (λ z.
      let t : Counted l k x next = accepts l k b s z in
      adds_up next (after k x) bs t.reached
      ∙ ap (λ (y : ℤ). y +ℤ total term (after k x) rest) (adds l k x next t)
      ∙ +ℤ_assoc (measure l) (term k x) (total term (after k x) rest))
      (λ z.
      let same : next ≡ l = (step l b s.sound).kept z in
      adds_up next k bs (rw same s) ∙ ap (λ (m : Ledger). measure m +ℤ total term k rest) same)
    where
      next : Ledger
      next = (posted l b).ledger

      x : Line
      x = line l b

      rest : List Line
      rest = accepted (history (posted l b).ledger bs)

  from_fresh : (new : Bool) → measure (fresh new) ≡ pos 0 → (bs : List (List ℕ)) → measure (run (fresh new) bs) ≡ total term start (accepted (history (fresh new) bs))
  from_fresh new z bs = adds_up (fresh new) start bs (fresh_reached new) ∙ rw z (+ℤ_idl (total term start (accepted (history (fresh new) bs))))

-- ---- the claims

pub banks_add_up : BanksAddUp
banks_add_up new bs i h = from_fresh (λ l. bank_of l i) (moved i) (λ l k x next t. t.banks i) new (fresh_bank new i) bs ∙ moved_sum i (accepted (history (fresh new) bs))

pub debts_add_up : DebtsAddUp
debts_add_up new bs i h = from_fresh (λ l. owed_of l i) (billed i) (λ l k x next t. t.debts i) new (unfold owed_of in fresh_owed new i) bs

pub days_add_up : DaysAddUp
days_add_up new bs i h = from_fresh (λ l. days_of l i) (violated i) (λ l k x next t. t.days i) new (unfold days_of in fresh_days new i) bs

-- all banks together: what some accounts gave others received
figure_adds : (l : Ledger) (k : Known) (x : Line) (next : Ledger) → Counted l k x next → over_first 16 (bank_of next) ≡ over_first 16 (bank_of l) +ℤ figured k x
unfolding of_all
figure_adds l k x next t =
    over_cong 16 (bank_of next) (λ i. bank_of l i +ℤ moved i k x) t.banks
    ∙ over_add 16 (bank_of l) (λ i. moved i k x)
    ∙ ap (λ (z : ℤ). over_first 16 (bank_of l) +ℤ z) (moved_figured k x t.balances)

fresh_figure : (new : Bool) → over_first 16 (bank_of (fresh new)) ≡ pos 0
unfolding over_first
fresh_figure new = over_cong 16 (bank_of (fresh new)) (λ i. pos 0) (fresh_bank new)

figure_adds_up : (new : Bool) (bs : List (List ℕ)) → open_banks (run (fresh new) bs).accounts ≡ figure_sum (accepted (history (fresh new) bs))
figure_adds_up new bs =
    let l = run (fresh new) bs in
    banks_over l.accounts
    ∙ over_cong (length l.accounts) (λ i. open_bank (get_or l.accounts i nobody)) (bank_of l) (λ i. sym (bank_at l i))
    ∙ ap (λ (n : ℕ). over_first n (bank_of l)) (from_fresh_reached new bs).sound.sized
    ∙ from_fresh (λ l. over_first 16 (bank_of l)) figured figure_adds new (fresh_figure new) bs
    ∙ figured_sum (accepted (history (fresh new) bs))

pub panel_adds_up : PanelAddsUp
panel_adds_up new bs = panel_of_sound (run (fresh new) bs) (from_fresh_reached new bs).sound ∙ rw (figure_adds_up new bs)

-- ---- letters

-- how often a letter moves gas in what is accepted from some ledger on
moves_at_most : (l : Ledger) (k : Known) (bs : List (List ℕ)) (n : ℕ) → Reached l k → moves n (pairs k (accepted (history l bs))) ≤ most n k
unfolding accepted pairs
moves_at_most l k [] n s = none_moves n k
moves_at_most l k (b ∷ bs) n s =
    either (λ (xs : List Line). moves n (pairs k xs) ≤ most n k) (eqb (posted l b).answer.number 0) _ (accepted (history (posted l b).ledger bs))
    (λ z.
    let t = accepts l k b s z in
    one_more k (line l b) (pairs (after k (line l b)) (accepted (history (posted l b).ledger bs))) s.orderly n (moves_at_most (posted l b).ledger (after k (line l b)) bs n t.reached))
    (λ z. moves_at_most (posted l b).ledger k bs n (rw ((step l b s.sound).kept z) s))

pub moves_once : MovesOnce
moves_once new bs place = rw (most_at_start place) at (moves_at_most (fresh new) start bs place (fresh_reached new))

pub pairs_cross : PairsCross
pairs_cross new bs = letters_of (accepted (history (fresh new) bs))

-- ---- striking

postings_back : (l : Ledger) (bs : List (List ℕ)) → postings_of (history l bs) ≡ bs
unfolding postings_of
postings_back l [] = refl
postings_back l (b ∷ bs) = ap (λ (cs : List (List ℕ)). b ∷ cs) (postings_back (posted l b).ledger bs)

strike : (l : Ledger) (k : Known) (bs : List (List ℕ)) (marks : List Bool) → Reached l k
    → (history l (postings_of (remaining marks (history l bs))) ≡ remaining marks (history l bs)) × (run l (postings_of (remaining marks (history l bs))) ≡ run l bs)
unfolding remaining postings_of
strike l k [] [] s = (refl, refl)
strike l k [] (m ∷ ms) s = (refl, refl)
strike l k (b ∷ bs) [] s = (ap (history l) (postings_back l (b ∷ bs)), ap (run l) (postings_back l (b ∷ bs)))
strike l k (b ∷ bs) (m ∷ ms) s =
    let n = next_reached l k b s in
    go (m && not (eqb (posted l b).answer.number 0)) refl (strike (posted l b).ledger n.0 bs ms n.1)
  where
    x : Line
    x = line l b

    rest : List Line
    rest = remaining ms (history (posted l b).ledger bs)

    go : (t : Bool) → m && not (eqb (posted l b).answer.number 0) ≡ t
        → (history (posted l b).ledger (postings_of rest) ≡ rest) × (run (posted l b).ledger (postings_of rest) ≡ run (posted l b).ledger bs)
        → (history l (postings_of (cond t rest (x ∷ rest))) ≡ cond t rest (x ∷ rest)) × (run l (postings_of (cond t rest (x ∷ rest))) ≡ run (posted l b).ledger bs)
    go true z ih =
        let same_ledger = (step l b s.sound).kept (not-true (eqb (posted l b).answer.number 0) (and_right m (not (eqb (posted l b).answer.number 0)) z)) in
        (ap (λ (n : Ledger). history n (postings_of rest)) (sym same_ledger) ∙ ih.0, ap (λ (n : Ledger). run n (postings_of rest)) (sym same_ledger) ∙ ih.1)
    go false z ih = (ap (λ (xs : List Line). x ∷ xs) ih.0, ih.1)

pub striking_changes_nothing : StrikingChangesNothing
striking_changes_nothing new bs marks = strike (fresh new) start bs marks (fresh_reached new)

-- ---- the letters that stand

pub letters_stand : LettersStand
letters_stand new bs = (from_fresh_reached new bs).stands
