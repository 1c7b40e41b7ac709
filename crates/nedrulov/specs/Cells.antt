-- R80: the year sheet in cells that the caller lends, a row of twelve for each of sixteen accounts, one after the other.
use Rattle.std.specs.Prelude.{◌/◌, ◌%◌, ℤ, cond, ltb, List, ◌++◌, length, drop}
use Rattle.tariff.specs.declared.amounts.Units.{Units}
use Rattle.archive.specs.YearSheet.{up_to, cell_at}

-- R80: cell k is of account k / 12, and of month k mod 12 in the gas year.
unfoldable pub cells_of : List (List Units) → List ℤ
cells_of sheet = up_to 192 (λ k. (cell_at sheet (k / 12) (k % 12)).0)

-- R80: a loan too short for the sheet stays as it was, with answer 12; cells past the sheet stay too.
unfoldable pub cells_after : List (List Units) → List ℤ → List ℤ
cells_after sheet cells = cond (ltb (length cells) 192) cells (cells_of sheet ++ drop 192 cells)
