-- The panel: all gas in bank, as one figure.
use Rattle.std.specs.Prelude.{◌≡◌, true, false, ℕ, ℤ, pos, ◌+ℤ◌, cond, List, [], ◌∷◌, Result, MatchResult}
use Rattle.ledger.specs.Structs.{Account, Ledger, Panel, Units}
use Rattle.ledger.specs.State.{account_at}
use Rattle.ledger.specs.Ranges.{in_range}
use Rattle.ledger.specs.Refusals.{number}
use Rattle.ledger.specs.declared.refusals.Refusal.{Refusal}
use Rattle.ledger.specs.declared.refusals.Refusal.TheVariants as refusal

-- R60: the bank of an open account; any other counts as 0 (R20).
unfoldable pub open_bank : Account → ℤ
open_bank a = cond a.opened a.bank.0 (pos 0)

-- R60: the bank of account i, 0 beyond the sixteenth.
unfoldable pub bank_of : Ledger → ℕ → ℤ
bank_of l i = open_bank (account_at l i)

-- R60: overdrawn banks count too, so the sum may be negative.
unfoldable pub open_banks : List Account → ℤ
open_banks [] = pos 0
open_banks (a ∷ rest) = open_bank a +ℤ open_banks rest

-- R60: a ledger out of range gets 20 and no figure, since none of its numbers can be trusted.
unfoldable pub panel_of : Ledger → Panel
panel_of l =
    record {
      number = cond (in_range l) 0 20;
      figure = record { 0 = cond (in_range l) (open_banks l.accounts) (pos 0) };
    }

-- R60: what is found of a ledger: the figure, or that it is out of range.
abbrev pub Figures : Result Units Refusal → Ledger → Type 0
Figures r l =
    MatchResult r (λ x. (in_range l ≡ true) × (x.0 ≡ open_banks l.accounts)) (λ f. (in_range l ≡ false) × (f ≡ refusal.LedgerOutOfRange))

-- R60: how the panel shows that.
abbrev pub Shows : Result Units Refusal → Panel → Type 0
Shows r p =
    MatchResult r (λ x. (p.number ≡ 0) × (p.figure ≡ x)) (λ f. (p.number ≡ number f) × (p.figure.0 ≡ pos 0))
