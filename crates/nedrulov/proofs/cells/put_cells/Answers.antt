-- The sheet row after row is its cells, one after the other.
use Rattle.std.proofs.Common.{rules, arith, ℕ, zero, suc, ◌+◌, ◌*◌, ◌/◌, ◌%◌, ◌<◌, ◌≤◌, List, [], ◌∷◌, ◌++◌, ◌≡◌, refl, sym, ap, ◌∙◌, subst, length, get_or}
use Rattle.std.specs.List.{flat_map}
use Rattle.std.proofs.lemmas.List.{get_or-append-add}
use native.Mathlib.Nat.{zero-add}
use native.Mathlib.Numerals.{add-one}
use lib.IntN.{ℤ, pos}
use lib.Seq.{paste, paste-zero, paste-suc, take_all}
use lib.ListN.{drop, set, length-set, get_or-append}
use mir.Syntax.{w64}
use mir.Val.{to_z, of_z}
use Rattle.archive.proofs.Grids.{get_up_to, length_up_to, cell_at_lem, row_length}
use Rattle.archive.specs.YearSheet.{cell_at}
use Rattle.tariff.specs.declared.amounts.Units.{Units}
use Rattle.nedrulov.specs.Cells.{cells_of}
use Rattle.nedrulov.proofs.cells.put_cells.Goals as goal

flat : (xs : List (List Units)) (i j : ℕ) (d : Units) → ((n : ℕ) → n < length xs → length (get_or xs n []) ≡ 12) → i < length xs → j < 12 → get_or (flat_map (λ x. x) xs) (12 * i + j) d ≡ get_or (get_or xs i []) j d
flat [] i j d r h l = absurd (omega arith)
flat (x ∷ xs) zero j d r h l =
    let w : length x ≡ 12 = r 0 (omega arith) in
    let z : 12 * 0 + j ≡ j = omega arith in
    rw z (get_or-append x (flat_map (λ x. x) xs) d j (omega arith))
flat (x ∷ xs) (suc i) j d r h l =
    let w : length x ≡ 12 = r 0 (omega arith) in
    let z : 12 * suc i + j ≡ length x + (12 * i + j) = omega arith in
    rw z (get_or-append-add x (flat_map (λ x. x) xs) (12 * i + j) d ∙ flat xs i j d (λ n m. r (suc n) (omega arith)) (omega arith) l)

length_cells : (sheet : List (List Units)) → length (cells_of sheet) ≡ 192
unfolding cells_of
length_cells sheet = length_up_to 192 (λ k. (cell_at sheet (k / 12) (k % 12)).0)

-- one cell more
cell_more : (sheet : List (List Units)) (d x : List ℤ) (k : ℕ) → x ≡ paste d 0 (cells_of sheet) k → k < 192 → 192 ≤ length d → set x k (cell_at sheet (k / 12) (k % 12)).0 ≡ paste d 0 (cells_of sheet) (k + 1)
unfolding cells_of
cell_more sheet d x k e h r =
    let z = (cell_at sheet (k / 12) (k % 12)).0 in
    let cell : get_or (cells_of sheet) k (pos 0) ≡ z = get_up_to 192 (λ j. (cell_at sheet (j / 12) (j % 12)).0) k (pos 0) h in
    ap (λ (l : List ℤ). set l k z) e
    ∙ ap (set (paste d 0 (cells_of sheet) k) k) (sym cell)
    ∙ subst (λ (j : ℕ). set (paste d 0 (cells_of sheet) k) j (get_or (cells_of sheet) k (pos 0)) ≡ paste d 0 (cells_of sheet) (suc k)) (zero-add k) (paste-suc d 0 (cells_of sheet) k (pos 0) (omega arith) (omega (arith, length_cells sheet)))
    ∙ ap (paste d 0 (cells_of sheet)) (sym (add-one k))

cells_all : (sheet : List (List Units)) (d : List ℤ) → paste d 0 (cells_of sheet) 192 ≡ cells_of sheet ++ drop 192 d
cells_all sheet d = ap (λ (l : List ℤ). l ++ drop 192 d) (take_all 192 (cells_of sheet) (omega (arith, length_cells sheet)))

pub loop-k-init : goal.loop-k-init
loop-k-init c = (refl, paste-zero c.args.cells.now 0 (cells_of c.args.sheet.now))

pub loop-k-preserved : goal.loop-k-preserved
loop-k-preserved c =
    let sheet = c.args.sheet.now in
    let k = c.loop-k.k in
    let sixteen : length sheet ≡ 16 = c.told-sheet in
    let short : k < 192 = omega (arith, c.as_flattened-bank-items.ensures.len) in
    let z : ℤ = (get_or c.as_flattened-bank-items.result.now k (record { 0 = pos 0 })).0 in
    let same : to_z w64 (of_z w64 z) ≡ z = search rules in
    let place : 12 * (k / 12) + k % 12 ≡ k = omega arith in
    let here = rw place at (flat sheet (k / 12) (k % 12) (record { 0 = pos 0 }) (row_length sheet c.requires.1) (omega arith) (omega arith)) in
    let cell : z ≡ (cell_at sheet (k / 12) (k % 12)).0 =
    ap (λ (l : List Units). (get_or l k (record { 0 = pos 0 })).0) c.as_flattened-bank-items.ensures.value ∙ ap (λ (u : Units). u.0) (here ∙ sym (cell_at_lem sheet (k / 12) (k % 12))) in
    (simp length-set c.loop-k.invariant.0, ap (set c.loop-k.cells k) (same ∙ cell) ∙ cell_more sheet c.args.cells.now c.loop-k.cells k c.loop-k.invariant.1 short c.requires.0)

pub returns : goal.returns
returns c =
    let d = c.args.cells.now in
    let all : c.loop-k.k ≡ 192 = omega (arith, c.as_flattened-bank-items.ensures.len, c.told-sheet) in
    c.loop-k.invariant.1 ∙ ap (paste d 0 (cells_of c.args.sheet.now)) all ∙ cells_all c.args.sheet.now d
