-- Row by row the month's cell takes the account's bank; after 16 rows the whole column has.
use native.Mathlib.Omega.{arith}
use Prim.Native.Nat.{ℕ, ◌+◌, ◌<◌, ◌≤◌}
use mathlib.Core.Path.{◌≡◌, refl, sym, ap, ap₂, ◌∙◌}
use mathlib.Core.Bool.{Bool, true, false, cond, ◌&&◌}
use mathlib.Core.List.{List, []}
use lib.Dec.{eqb}
use lib.IntN.{ℤ}
use lib.ListN.{length, set, get_or, drop}
use Rattle.tariff.specs.Months.{gas_month}
use Rattle.ledger.specs.Entries.{entry_of}
use Rattle.ledger.specs.State.{fresh}
use Rattle.ledger.specs.Posting.{posted}
use Rattle.ledger.specs.declared.answers.Answer.{Answer}
use Rattle.ledger.proofs.Fields.{month_byte}
use Rattle.archive.specs.Entries.{closes_month}
use Rattle.archive.specs.Reading.{is_new}
use Rattle.archive.specs.Replay.{fresh_for, entries_in}
use Rattle.archive.proofs.Replays.{entries_left, entries_done}
use Rattle.ledger.specs.Panel.{bank_of}
use Rattle.archive.specs.Structs.{Ledger, Units}
use Rattle.archive.specs.YearSheet.{grid, no_bank, cell_at, bank_in, in_gas_year, closes_in, cell_after, sheet_of}
use Rattle.archive.proofs.Grids.{filled, filled_none, filled_next, filled_all, same_columns, grid_cells, sheet_after, after_none, after_next, after_all}

-- the first i rows have it
pub record Filled (l : Ledger) (month : ℕ) (sheet next : List (List Units)) (i : ℕ) : Type 0 where
  pub within : i ≤ 16
  pub same : next ≡ grid (filled (bank_in l) (cell_at sheet) month i)

pub none_filled : (l : Ledger) (month : ℕ) (sheet : List (List Units)) → sheet ≡ grid (cell_at sheet) → Filled l month sheet sheet 0
none_filled l month sheet e = record { within = omega arith; same = e ∙ filled_none (bank_in l) (cell_at sheet) month }

module _ (l : Ledger) (month : ℕ) (sheet next : List (List Units)) (i : ℕ) (r : Filled l month sheet next i) where
  pub all_filled : 16 ≤ i → next ≡ grid (λ i m. cond (eqb month m) (bank_in l i) (cell_at sheet i m))
  all_filled h = r.same ∙ filled_all (bank_in l) (cell_at sheet) month i h

  pub row_filled : i < 16 → month < 12 → (bank : Units) → bank.0 ≡ bank_of l i → Filled l month sheet (set next i (set (get_or next i []) month bank)) (i + 1)
  unfolding bank_in
  row_filled h m bank e =
      record {
        within = omega arith;
        same = ap (λ (z : ℤ). set next i (set (get_or next i []) month (record { 0 = z }))) e ∙ filled_next (bank_in l) (cell_at sheet) month i next h m r.same;
      }

-- ---- the sheet so far, carried over the entries from k on, is the sheet of all

pub record NotedSoFar (new : Bool) (es : List (List ℕ)) (year k : ℕ) (l : Ledger) (sheet : List (List Units)) : Type 0 where
  pub cells : sheet ≡ grid (cell_at sheet)
  pub same : sheet_after year sheet l (drop k es) ≡ grid (λ i m. cell_after year i m no_bank (fresh new) es)

pub none_noted : (new : Bool) (es : List (List ℕ)) (year : ℕ) (l : Ledger) (sheet : List (List Units)) → l ≡ fresh new → sheet ≡ grid (λ i m. no_bank) → NotedSoFar new es year 0 l sheet
none_noted new es year l sheet e f = record { cells = grid_cells (λ i m. no_bank) sheet f; same = after_all year new sheet l es f e }

-- which column an entry fills, by the tests in the code's order
filled_column : (year m number : ℕ) (e : List ℕ) (a b c : Bool) (g : ℕ) → a ≡ eqb number 0 → b ≡ closes_month e → c ≡ in_gas_year year (entry_of e).date → a && b && c ≡ true
    → g ≡ gas_month (record { 0 = get_or e 6 0 }) → eqb g m ≡ closes_in year m number e
unfolding closes_in
filled_column year m number e a b c g p q r t h =
    let month : g ≡ gas_month (entry_of e).date.month = h ∙ ap (λ n. gas_month (record { 0 = n })) (sym (month_byte e)) in
    rw (← p, ← q, ← r, t, month)

no_column : (year m number : ℕ) (e : List ℕ) (a b c : Bool) → a ≡ eqb number 0 → b ≡ closes_month e → c ≡ in_gas_year year (entry_of e).date → a && b && c ≡ false → false ≡ closes_in year m number e
unfolding closes_in
no_column year m number e a b c p q r t = rw (← p, ← q, ← r, t)

module _ (new : Bool) (es : List (List ℕ)) (year k : ℕ) (l : Ledger) (sheet : List (List Units)) (n : NotedSoFar new es year k l sheet) where
  pub all_noted : length es ≤ k → sheet ≡ grid (λ i m. cell_after year i m no_bank (fresh new) es)
  all_noted h = sym (after_none year sheet l n.cells) ∙ (rw (entries_done es k h) at n.same)

  module _ (d : List ℕ) (more : k < length es) (ans : Answer) (m : Ledger) (e : ans ≡ (posted l (get_or es k d)).answer) (g : m ≡ (posted l (get_or es k d)).ledger) where
    abbrev entry : List ℕ
    entry = get_or es k d

    noted : (next : List (List Units)) → next ≡ grid (λ i n. cond (closes_in year n ans.number entry) (bank_in m i) (cell_at sheet i n)) → NotedSoFar new es year (k + 1) m next
    noted next f =
        let filled_by : next ≡ grid (λ i n. cond (closes_in year n (posted l entry).answer.number entry) (bank_in (posted l entry).ledger i) (cell_at sheet i n)) =
        f ∙ ap₂ (λ (a : Answer) (q : Ledger). grid (λ i n. cond (closes_in year n a.number entry) (bank_in q i) (cell_at sheet i n))) e g in
        record {
          cells = grid_cells (λ i n. cond (closes_in year n ans.number entry) (bank_in m i) (cell_at sheet i n)) next f;
          same = ap (λ (q : Ledger). sheet_after year next q (drop (k + 1) es)) g ∙ after_next year sheet next l (posted l entry) entry (drop (k + 1) es) refl filled_by ∙ (rw (entries_left es k d more) at n.same);
        }

    module _ (a b c : Bool) (q : a ≡ eqb ans.number 0) (r : b ≡ closes_month entry) (s : c ≡ in_gas_year year (entry_of entry).date) where
      pub one_noted : a && b && c ≡ true → (g : ℕ) → g ≡ gas_month (record { 0 = get_or entry 6 0 }) → (next : List (List Units))
          → next ≡ grid (λ i n. cond (eqb g n) (bank_in m i) (cell_at sheet i n)) → NotedSoFar new es year (k + 1) m next
      one_noted t g h next f =
          noted next (f ∙ same_columns (bank_in m) (cell_at sheet) (eqb g) (λ n. closes_in year n ans.number entry) (λ n. filled_column year n ans.number entry a b c g q r s t h))

      pub same_noted : a && b && c ≡ false → NotedSoFar new es year (k + 1) m sheet
      same_noted t =
          noted sheet (n.cells ∙ same_columns (bank_in m) (cell_at sheet) (λ n. false) (λ n. closes_in year n ans.number entry) (λ n. no_column year n ans.number entry a b c q r s t))

-- the sheet of an archive is that of the entries in it
pub sheet_is : (a : List ℕ) (year : ℕ) (new : Bool) (es : List (List ℕ)) → new ≡ is_new a → es ≡ entries_in a → (s : List (List Units)) → s ≡ grid (λ i m. cell_after year i m no_bank (fresh new) es) → s ≡ sheet_of a year
unfolding sheet_of fresh_for
sheet_is a year new es b e s f = f ∙ ap₂ (λ n t. grid (λ i m. cell_after year i m no_bank (fresh n) t)) b e

pub sheet_grid : (a : List ℕ) (year : ℕ) → sheet_of a year ≡ grid (cell_at (sheet_of a year))
unfolding sheet_of
sheet_grid a year = grid_cells (λ i m. cell_after year i m no_bank (fresh_for a) (entries_in a)) _ refl
