-- The panel of a sound ledger shows its open banks, one for each account from the first on; what stands at a place of the accounts is the account there.
use Prim.Native.Nat.{ℕ, zero, suc, ◌≤◌, ◌<◌}
use mathlib.Core.Path.{◌≡◌, refl}
use mathlib.Core.Bool.{false}
use mathlib.Core.List.{List, [], ◌∷◌}
use lib.IntN.{pos, ◌+ℤ◌}
use native.Mathlib.Omega.{arith}
use lib.ListN.{get_or, length, get_or-eq_default}
use Rattle.ledger.specs.State.{nobody, no_totals, no_month, no_today, account_at}
use Rattle.ledger.specs.Panel.{open_bank, bank_of, open_banks, panel_of}
use Rattle.ledger.specs.Structs.{Account, Ledger}
use Rattle.ledger.proofs.OneStep.{Sound}

pub panel_of_sound : (l : Ledger) → Sound l → panel_of l ≡ record { number = 0; figure = record { 0 = open_banks l.accounts } }
unfolding panel_of
panel_of_sound l s = rw s.ranged

pub no_banks : open_banks [] ≡ pos 0
unfolding open_banks
no_banks = refl

pub one_bank_more : (a : Account) (xs : List Account) → open_banks (a ∷ xs) ≡ open_bank a +ℤ open_banks xs
unfolding open_banks
one_bank_more a xs = refl

pub bank_at : (l : Ledger) (i : ℕ) → bank_of l i ≡ open_bank (get_or l.accounts i nobody)
unfolding bank_of account_at
bank_at l i = refl

-- whatever would stand past the end
same_place : (xs : List Account) (i : ℕ) (d e : Account) → i < length xs → get_or xs i d ≡ get_or xs i e
same_place [] i d e h = absurd (omega arith)
same_place (x ∷ xs) zero d e h = refl
same_place (x ∷ xs) (suc i) d e h = same_place xs i d e (omega arith)

pub account_there : (l : Ledger) (i : ℕ) (d : Account) → i < length l.accounts → get_or l.accounts i d ≡ account_at l i
unfolding account_at
account_there l i d h = same_place l.accounts i d nobody h

-- beyond the last account nobody is open
pub none_beyond : (l : Ledger) (i : ℕ) → length l.accounts ≤ i → (account_at l i).opened ≡ false
unfolding account_at nobody no_totals no_month no_today
none_beyond l i h = rw (get_or-eq_default l.accounts nobody h)
