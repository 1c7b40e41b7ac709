-- R95: which accounts could receive a quantity of a seller's gas today.
use Rattle.std.specs.Prelude.{ℕ, Bool, not, ◌&&◌, eqb}
use Rattle.tariff.specs.Amounts.{more, less}
use Rattle.tariff.specs.Limits.{above_maximum, below_minimum}
use Rattle.ledger.specs.State.{account_at}
use Rattle.partners.specs.Structs.{Account, Ledger, Month, Quantity}

-- R95: with the quantity more, the bank is still not above the month's maximum (R36); a bank below the minimum may take too.
unfoldable pub takes : Month → Account → Quantity → Bool
takes m a q = not (above_maximum m a.capacity.bcq (more a.bank q))

-- R95: with the quantity less, the bank is still not below the month's minimum (R36); a bank above the maximum may give too.
unfoldable pub spares : Month → Account → Quantity → Bool
spares m a q = not (below_minimum m a.capacity.bcq (less a.bank q))

-- R95: account i is open, is another one than the seller s, and could take q units; and the seller could spare them.
unfoldable pub could_receive : Ledger → ℕ → ℕ → ℕ → Bool
could_receive l s q i =
    (account_at l i).opened
    && not (eqb i s)
    && takes l.date.month (account_at l i) (record { 0 = q })
    && spares l.date.month (account_at l s) (record { 0 = q })
