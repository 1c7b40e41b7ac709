-- An archive's entries posted in order to a fresh ledger; those that it refuses are in the archive too, and are refused again.
use Rattle.std.specs.Prelude.{ℕ, ◌+◌, ◌<◌, Bool, cond, eqb, List, [], ◌∷◌, ◌≡◌}
use Rattle.archive.specs.Structs.{Figures, Ledger, Replay}
use Rattle.ledger.specs.State.{fresh}
use Rattle.ledger.specs.Panel.{bank_of, panel_of}
use Rattle.ledger.specs.Running.{Line, history, run, is_accepted}
use Rattle.history.specs.History.{accepted, start, total, billed, violated, bank_sum, figure_sum, owed_of, days_of, remaining, postings_of}
use Rattle.archive.specs.Entries.{entries_of}
use Rattle.archive.specs.Reading.{checked, is_new, list_of}

-- R77: the list in an archive, an empty one if the archive is refused.
unfoldable pub list_in : List ℕ → List ℕ
list_in a = cond (eqb (checked a).number 0) (list_of a) []

-- R77: its entries.
unfoldable pub entries_in : List ℕ → List (List ℕ)
entries_in a = entries_of (list_in a)

-- R77 and R87: the ledger that they are posted to: new where the archive is.
unfoldable pub fresh_for : List ℕ → Ledger
fresh_for a = fresh (is_new a)

-- R77: a count over postings, each as 1 or 0.
unfoldable pub count_of : (Line → ℕ) → List Line → ℕ
count_of f [] = 0
count_of f (x ∷ xs) = f x + count_of f xs

-- R77: accepted and refused postings.
unfoldable pub as_accepted : Line → ℕ
as_accepted x = cond (is_accepted x) 1 0

unfoldable pub as_refused : Line → ℕ
as_refused x = cond (is_accepted x) 0 1

-- R77: the reader's finding, the counts and the last ledger.
unfoldable pub replayed : List ℕ → Replay
replayed a =
    record {
      number = (checked a).number;
      index = (checked a).index;
      accepted = count_of as_accepted (history (fresh_for a) (entries_in a));
      refused = count_of as_refused (history (fresh_for a) (entries_in a));
      ledger = run (fresh_for a) (entries_in a);
    }

-- R77: the same with the panel's figure for the ledger, which is what the panel program prints (R81).
unfoldable pub figures_of : List ℕ → Figures
figures_of a =
    record {
      number = (replayed a).number;
      index = (replayed a).index;
      accepted = (replayed a).accepted;
      refused = (replayed a).refused;
      figure = (panel_of (replayed a).ledger).figure;
    }

-- ---- what holds of every list holds of what an archive holds

-- R78: the accepted postings of an archive.
abbrev pub accepted_of : List ℕ → List Line
accepted_of a = accepted (history (fresh_for a) (entries_in a))

-- R78: R63, of banks and of the figure.
abbrev pub BanksAddUp : Type 0
BanksAddUp = (a : List ℕ) (i : ℕ) → i < 16 → bank_of (replayed a).ledger i ≡ bank_sum i (accepted_of a)

abbrev pub FigureAddsUp : Type 0
FigureAddsUp = (a : List ℕ) → (figures_of a).figure ≡ record { 0 = figure_sum (accepted_of a) }

-- R78: R64, of debts and of violation days.
abbrev pub DebtsAddUp : Type 0
DebtsAddUp = (a : List ℕ) (i : ℕ) → i < 16 → owed_of (replayed a).ledger i ≡ total (billed i) start (accepted_of a)

abbrev pub DaysAddUp : Type 0
DaysAddUp = (a : List ℕ) (i : ℕ) → i < 16 → days_of (replayed a).ledger i ≡ total (violated i) start (accepted_of a)

-- R78: R65.
abbrev pub StrikingChangesNothing : Type 0
StrikingChangesNothing =
    (a : List ℕ) (marks : List Bool)
    → (history (fresh_for a) (postings_of (remaining marks (history (fresh_for a) (entries_in a)))) ≡ remaining marks (history (fresh_for a) (entries_in a)))
    × (run (fresh_for a) (postings_of (remaining marks (history (fresh_for a) (entries_in a)))) ≡ (replayed a).ledger)
