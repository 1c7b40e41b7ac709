-- R82: the amount of a delivery for programs that explain figures, for every input.
use Rattle.std.specs.Prelude.{ℕ, ℤ, pos, Bool, cond, ◌&&◌, leb}
use Rattle.tariff.specs.Bounds.{most_retainage, most_units}
use Rattle.tariff.specs.Delivery.{retained}

-- R82: retainage, gas brought and back-cast within the ranges of R13.
unfoldable pub deliverable : ℕ → ℕ → ℕ → Bool
deliverable retainage delivered back_cast = leb retainage most_retainage && leb delivered most_units && leb back_cast most_units

-- R82: the amount of R31, found without a ledger; 0 where one of the three is outside its range.
unfoldable pub delivery_amount : ℕ → ℕ → ℕ → ℤ
delivery_amount retainage delivered back_cast =
    cond (deliverable retainage delivered back_cast)
    (retained retainage (record { 0 = delivered }) (record { 0 = back_cast })).0
    (pos 0)
