-- The open banks are summed from the front: one more account moves its bank from the rest to the sum, and past the last nothing is left.
use Prim.Native.Nat.{ℕ, suc, ◌+◌, ◌≤◌, ◌<◌}
use mathlib.Core.Path.{◌≡◌, ◌∙◌, ap, sym}
use mathlib.Core.List.{List}
use native.Mathlib.Numerals.{add-one}
use lib.IntN.{ℤ, pos, ◌+ℤ◌, +ℤ_assoc, +ℤ_idr}
use lib.ListN.{length, drop, get_or, drop_of_length-le}
use lib.Seq.{drop-cons}
use Rattle.tariff.specs.Amounts.{size}
use Rattle.tariff.proofs.Laws.{nothing_value}
use Rattle.tariff.proofs.Sizes.{size_nothing}
use Rattle.ledger.specs.Panel.{open_bank, open_banks}
use Rattle.ledger.specs.Structs.{Account}

pub banks_next : (xs : List Account) (i : ℕ) (d : Account) (x : ℤ) → i < length xs → x +ℤ open_banks (drop i xs) ≡ (x +ℤ open_bank (get_or xs i d)) +ℤ open_banks (drop (i + 1) xs)
unfolding open_banks
banks_next xs i d x h = rw (add-one, drop-cons xs i d) (sym (+ℤ_assoc x (open_bank (get_or xs i d)) (open_banks (drop (suc i) xs))))

pub banks_end : (xs : List Account) (i : ℕ) (x : ℤ) → length xs ≤ i → x +ℤ open_banks (drop i xs) ≡ x
unfolding open_banks
banks_end xs i x h = rw (drop_of_length-le xs h) (+ℤ_idr x)

-- nothing has no size
pub size_none : size (record { 0 = pos 0 }) ≡ 0
size_none = ap (λ z. size (record { 0 = z })) (sym nothing_value) ∙ size_nothing
