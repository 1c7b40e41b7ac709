-- Two grids are the same where their 16 by 12 cells are: so a cell stored, a column filled or a posting noted is looked at cell by cell.
use borrow.Author.Tests.{eqb-true, eqb-false, lt-ltb, le-ltb, ltb-true, ltb-false}
use native.Mathlib.Omega.{arith}
use Prim.Native.Nat.{ℕ, zero, suc, ◌+◌, ◌<◌, ◌≤◌}
use mathlib.Core.Path.{◌≡◌, refl, sym, ap, ap₂, ◌∙◌}
use mathlib.Core.Bool.{Bool, true, false, cond, ◌&&◌}
use mathlib.Core.List.{List, [], ◌∷◌}
use lib.Dec.{eqb, ltb, eqb-zero-suc, eqb-suc-zero, eqb-suc-suc}
use lib.IntN.{pos}
use lib.ListN.{length, get_or, set}
use Rattle.archive.specs.Structs.{Ledger, Units}
use Rattle.ledger.specs.State.{fresh}
use Rattle.ledger.specs.Posting.{posted}
use Rattle.ledger.specs.declared.answers.Posted.{Posted}
use Rattle.archive.specs.YearSheet.{up_to, grid, no_bank, cell_at, bank_in, closes_in, cell_after}

-- ---- a list of f of 0, 1, up to n − 1

module _ {A : Type 0} where
  pub get_up_to : (n : ℕ) (f : ℕ → A) (i : ℕ) (d : A) → i < n → get_or (up_to n f) i d ≡ f i
  unfolding up_to
  get_up_to zero f i d h = absurd (omega arith)
  get_up_to (suc n) f zero d h = refl
  get_up_to (suc n) f (suc i) d h = get_up_to n (λ j. f (suc j)) i d (omega arith)

  pub length_up_to : (n : ℕ) (f : ℕ → A) → length (up_to n f) ≡ n
  unfolding up_to
  length_up_to zero f = refl
  length_up_to (suc n) f = ap suc (length_up_to n (λ i. f (suc i)))

  same_up_to : (n : ℕ) (f g : ℕ → A) → ((i : ℕ) → i < n → f i ≡ g i) → up_to n f ≡ up_to n g
  unfolding up_to
  same_up_to zero f g h = refl
  same_up_to (suc n) f g h = ap₂ (λ x xs. x ∷ xs) (h 0 (omega arith)) (same_up_to n (λ i. f (suc i)) (λ i. g (suc i)) (λ i k. h (suc i) (omega arith)))

  set_up_to : (n : ℕ) (f : ℕ → A) (i : ℕ) (x : A) → i < n → set (up_to n f) i x ≡ up_to n (λ j. cond (eqb i j) x (f j))
  unfolding up_to
  set_up_to zero f i x h = absurd (omega arith)
  set_up_to (suc n) f zero x h = ap (λ xs. x ∷ xs) (same_up_to n (λ j. f (suc j)) (λ j. cond (eqb 0 (suc j)) x (f (suc j))) (λ j k. rw (eqb-zero-suc j)))
  set_up_to (suc n) f (suc i) x h =
      rw (eqb-suc-zero i)
      (ap (λ xs. f 0 ∷ xs)
      (set_up_to n (λ j. f (suc j)) i x (omega arith)
      ∙ same_up_to n (λ j. cond (eqb i j) x (f (suc j))) (λ j. cond (eqb (suc i) (suc j)) x (f (suc j))) (λ j k. rw (eqb-suc-suc i j))))

-- ---- a grid

pub cell_at_lem : (sheet : List (List Units)) (i m : ℕ) → cell_at sheet i m ≡ get_or (get_or sheet i []) m (record { 0 = pos 0 })
unfolding cell_at no_bank
cell_at_lem sheet i m = refl

module _ (f : ℕ → ℕ → Units) where
  cell_grid : (i m : ℕ) → i < 16 → m < 12 → cell_at (grid f) i m ≡ f i m
  unfolding grid cell_at
  cell_grid i m h k = ap (λ row. get_or row m no_bank) (get_up_to 16 (λ j. up_to 12 (f j)) i [] h) ∙ get_up_to 12 (f i) m no_bank k

  same_grid : (g : ℕ → ℕ → Units) → ((i m : ℕ) → i < 16 → m < 12 → f i m ≡ g i m) → grid f ≡ grid g
  unfolding grid
  same_grid g h = same_up_to 16 (λ i. up_to 12 (f i)) (λ i. up_to 12 (g i)) (λ i k. same_up_to 12 (f i) (g i) (λ m. h i m k))

  -- a grid is the grid of its cells
  pub grid_cells : (s : List (List Units)) → s ≡ grid f → s ≡ grid (cell_at s)
  grid_cells s e = e ∙ same_grid (cell_at (grid f)) (λ i m h k. sym (cell_grid i m h k)) ∙ ap (λ t. grid (cell_at t)) (sym e)

  row_stored : (b : Bool) (i j m : ℕ) (x : Units) → eqb i j ≡ b → cond b (up_to 12 (λ k. cond (eqb m k) x (f i k))) (up_to 12 (f j)) ≡ up_to 12 (λ k. cond (b && eqb m k) x (f j k))
  row_stored true i j m x e = ap (λ n. up_to 12 (λ k. cond (eqb m k) x (f n k))) (eqb-true i j e)
  row_stored false i j m x e = refl

  -- one cell, as an assignment stores it
  cell_stored : (i m : ℕ) (x : Units) → i < 16 → m < 12 → set (grid f) i (set (get_or (grid f) i []) m x) ≡ grid (λ j k. cond (eqb i j && eqb m k) x (f j k))
  unfolding grid
  cell_stored i m x h k =
      let rows : ℕ → List Units = λ j. up_to 12 (f j) in
      let row : List Units = up_to 12 (λ n. cond (eqb m n) x (f i n)) in
      ap (λ r. set (up_to 16 rows) i (set r m x)) (get_up_to 16 rows i [] h)
      ∙ ap (set (up_to 16 rows) i) (set_up_to 12 (f i) m x k)
      ∙ set_up_to 16 rows i row h
      ∙ same_up_to 16 (λ j. cond (eqb i j) row (rows j)) (λ j. up_to 12 (λ n. cond (eqb i j && eqb m n) x (f j n))) (λ j l. row_stored (eqb i j) i j m x refl)

-- every row has twelve cells
pub row_length : (s : List (List Units)) → s ≡ grid (cell_at s) → (n : ℕ) → n < length s → length (get_or s n []) ≡ 12
unfolding grid
row_length s e n h =
    let rows : ℕ → List Units = λ i. up_to 12 (λ m. cell_at s i m) in
    let long : length s ≡ 16 = ap length e ∙ length_up_to 16 rows in
    ap (λ t. length (get_or t n [])) e ∙ ap length (get_up_to 16 rows n [] (omega arith)) ∙ length_up_to 12 (λ m. cell_at s n m)

-- ---- the column of a month, filled from the top

beyond : (b : Bool) (i j : ℕ) → (i ≡ j → ⊥) → ltb j i ≡ b → b ≡ ltb j (i + 1)
beyond true i j h e = let l = ltb-true j i e in sym (lt-ltb j (i + 1) (omega arith))
beyond false i j h e = let l = ltb-false j i e in sym (le-ltb j (i + 1) (omega arith))

module _ (bank : ℕ → Units) where
  one_more : (b t : Bool) (i j : ℕ) (x : Units) → eqb i j ≡ b → cond (b && t) (bank i) (cond (ltb j i && t) (bank j) x) ≡ cond (ltb j (i + 1) && t) (bank j) x
  one_more true t i j x e =
      let same = eqb-true i j e in
      rw (le-ltb j i (omega arith), lt-ltb j (i + 1) (omega arith)) (ap (λ k. cond t (bank k) x) same)
  one_more false t i j x e = ap (λ b. cond (b && t) (bank j) x) (beyond (ltb j i) i j (eqb-false i j e) refl)

  module _ (f : ℕ → ℕ → Units) where
    pub same_columns : (p q : ℕ → Bool) → ((m : ℕ) → p m ≡ q m) → grid (λ i m. cond (p m) (bank i) (f i m)) ≡ grid (λ i m. cond (q m) (bank i) (f i m))
    same_columns p q h = same_grid (λ i m. cond (p m) (bank i) (f i m)) (λ i m. cond (q m) (bank i) (f i m)) (λ i m k l. ap (λ b. cond b (bank i) (f i m)) (h m))

    -- the first so many rows have it
    abbrev pub filled : ℕ → ℕ → ℕ → ℕ → Units
    filled month n i m = cond (ltb i n && eqb month m) (bank i) (f i m)

    pub filled_none : (month : ℕ) → grid f ≡ grid (filled month 0)
    filled_none month = same_grid f (filled month 0) (λ i m h k. rw (le-ltb i 0 (omega arith)))

    pub filled_next : (month n : ℕ) (s : List (List Units)) → n < 16 → month < 12 → s ≡ grid (filled month n) → set s n (set (get_or s n []) month (bank n)) ≡ grid (filled month (n + 1))
    filled_next month n s h k e =
        ap (λ t. set t n (set (get_or t n []) month (bank n))) e
        ∙ cell_stored (filled month n) n month (bank n) h k
        ∙ same_grid (λ i m. cond (eqb n i && eqb month m) (bank n) (filled month n i m)) (filled month (n + 1)) (λ i m _ _. one_more (eqb n i) (eqb month m) n i (f i m) refl)

    pub filled_all : (month n : ℕ) → 16 ≤ n → grid (filled month n) ≡ grid (λ i m. cond (eqb month m) (bank i) (f i m))
    filled_all month n h = same_grid (filled month n) (λ i m. cond (eqb month m) (bank i) (f i m)) (λ i m k l. rw (lt-ltb i n (omega arith)))

-- ---- the sheet after some postings, s being the sheet before them

module _ (year : ℕ) where
  unfoldable pub sheet_after : List (List Units) → Ledger → List (List ℕ) → List (List Units)
  sheet_after s l es = grid (λ i m. cell_after year i m (cell_at s i m) l es)

  pub after_none : (s : List (List Units)) (l : Ledger) → s ≡ grid (cell_at s) → sheet_after s l [] ≡ s
  unfolding sheet_after cell_after
  after_none s l e = sym e

  pub after_next : (s t : List (List Units)) (l : Ledger) (p : Posted) (e : List ℕ) (es : List (List ℕ)) → p ≡ posted l e → t ≡ grid (λ i m. cond (closes_in year m p.answer.number e) (bank_in p.ledger i) (cell_at s i m)) → sheet_after t p.ledger es ≡ sheet_after s l (e ∷ es)
  unfolding sheet_after cell_after
  after_next s t l p e es h k =
      let f : Posted → ℕ → ℕ → Units = λ q i m. cond (closes_in year m q.answer.number e) (bank_in q.ledger i) (cell_at s i m) in
      let next : ℕ → ℕ → Units → Units = λ i m x. cell_after year i m x (posted l e).ledger es in
      ap (λ r. sheet_after r p.ledger es) k
      ∙ ap (λ q. sheet_after (grid (f q)) q.ledger es) h
      ∙ same_grid (λ i m. next i m (cell_at (grid (f (posted l e))) i m)) (λ i m. next i m (f (posted l e) i m)) (λ i m a b. ap (next i m) (cell_grid (f (posted l e)) i m a b))

  pub after_all : (new : Bool) (s : List (List Units)) (l : Ledger) (es : List (List ℕ)) → s ≡ grid (λ i m. no_bank) → l ≡ fresh new → sheet_after s l es ≡ grid (λ i m. cell_after year i m no_bank (fresh new) es)
  unfolding sheet_after
  after_all new s l es e h =
      let zeros : List (List Units) = grid (λ i m. no_bank) in
      ap₂ (λ r k. sheet_after r k es) e h
      ∙ same_grid (λ i m. cell_after year i m (cell_at zeros i m) (fresh new) es) (λ i m. cell_after year i m no_bank (fresh new) es) (λ i m a b. ap (λ x. cell_after year i m x (fresh new) es) (cell_grid (λ i m. no_bank) i m a b))
