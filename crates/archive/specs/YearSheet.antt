-- The year sheet: every account's bank at the end of each month of a gas year.
use Rattle.std.specs.Prelude.{ℕ, zero, suc, ◌+◌, pos, Bool, cond, ◌&&◌, eqb, leb, List, [], ◌∷◌, get_or}
use Rattle.archive.specs.Structs.{Date, Ledger, Units}
use Rattle.tariff.specs.Months.{gas_month}
use Rattle.ledger.specs.Entries.{entry_of}
use Rattle.ledger.specs.Posting.{posted}
use Rattle.ledger.specs.Panel.{bank_of}
use Rattle.archive.specs.Entries.{closes_month}
use Rattle.archive.specs.Replay.{entries_in, fresh_for}

-- R79: f of 0, 1, up to n − 1.
unfoldable pub up_to : {A : Type 0} → ℕ → (ℕ → A) → List A
up_to zero f = []
up_to (suc n) f = f 0 ∷ up_to n (λ i. f (suc i))

-- R79: a row for each account, a column for each month.
unfoldable pub grid : (ℕ → ℕ → Units) → List (List Units)
grid f = up_to 16 (λ i. up_to 12 (λ m. f i m))

-- R79: what a cell holds if no month was closed for it.
unfoldable pub no_bank : Units
no_bank = record { 0 = pos 0 }

-- R79: a cell of a sheet.
unfoldable pub cell_at : List (List Units) → ℕ → ℕ → Units
cell_at sheet i m = get_or (get_or sheet i []) m no_bank

-- R79: the bank of account i in a ledger, 0 if it is not open.
unfoldable pub bank_in : Ledger → ℕ → Units
bank_in l i = record { 0 = bank_of l i }

-- R79: January to March belong to the gas year that began in the year before (R9).
unfoldable pub in_gas_year : ℕ → Date → Bool
in_gas_year y d = eqb d.year (cond (leb 4 d.month.0) y (y + 1))

-- R79: an entry, answered with a number, closes month m of gas year y; April is month 0.
unfoldable pub closes_in : ℕ → ℕ → ℕ → List ℕ → Bool
closes_in y m number e =
    eqb number 0 && closes_month e && in_gas_year y (entry_of e).date && eqb (gas_month (entry_of e).date.month) m

-- R79: the cell of account i and month m after some postings, x being what it held before them.
unfoldable pub cell_after : ℕ → ℕ → ℕ → Units → Ledger → List (List ℕ) → Units
cell_after y i m x l [] = x
cell_after y i m x l (e ∷ es) =
    cell_after y i m (cond (closes_in y m (posted l e).answer.number e) (bank_in (posted l e).ledger i) x) (posted l e).ledger es

-- R79: the sheet; of a refused archive it is all zeros, as no entries are posted.
unfoldable pub sheet_of : List ℕ → ℕ → List (List Units)
sheet_of a y = grid (λ i m. cell_after y i m no_bank (fresh_for a) (entries_in a))
