-- A fresh ledger is sound and holds nothing: all its accounts are the one that nobody has.
use Prim.Native.Nat.{ℕ, zero, suc}
use mathlib.Core.Path.{◌≡◌, refl, ap}
use mathlib.Core.Bool.{Bool, true, false}
use lib.IntN.{pos}
use lib.ListN.{get_or, replicate}
use Rattle.tariff.proofs.BusinessDays.{none_ranged}
use Rattle.tariff.proofs.Laws.{within_zero, within_mills_zero}
use Rattle.ledger.specs.Structs.{Account}
use Rattle.ledger.specs.State.{no_month, no_notice, no_today, no_totals, nobody, fresh, account_at}
use Rattle.ledger.specs.Ranges.{totals_in_range, step_in_range, notice_in_range, account_in_range, every_account, in_range}
use Rattle.ledger.specs.Panel.{open_bank, bank_of}
use Rattle.ledger.proofs.ClosedAccounts.{open_owed, open_days}
use Rattle.ledger.proofs.OneStep.{Sound}

pub fresh_account : (new : Bool) (i : ℕ) → account_at (fresh new) i ≡ nobody
unfolding account_at fresh
fresh_account new i = same 16 i
  where
    same : (n i : ℕ) → get_or (replicate n nobody) i nobody ≡ nobody
    same zero i = refl
    same (suc n) zero = refl
    same (suc n) (suc i) = same n i

nobody_ranged : account_in_range nobody ≡ true
unfolding account_in_range totals_in_range step_in_range notice_in_range nobody no_month no_today no_totals
nobody_ranged =
    rw (
      within_zero 1000000000 100000000000 nobody.bank refl,
      within_zero 100000000000 100000000000 nobody.month.totals.net refl,
      within_mills_zero 1000000000000000 nobody.owed refl,
    )

pub fresh_sound : (new : Bool) → Sound (fresh new)
unfolding in_range fresh every_account
fresh_sound new = record { sized = refl; ranged = rw (none_ranged, nobody_ranged) }

pub fresh_not_begun : (new : Bool) → (fresh new).begun ≡ false
unfolding fresh
fresh_not_begun new = refl

module _ (new : Bool) (i : ℕ) where
  pub fresh_bank : bank_of (fresh new) i ≡ pos 0
  unfolding bank_of open_bank nobody
  fresh_bank = ap open_bank (fresh_account new i)

  pub fresh_owed : open_owed (account_at (fresh new) i) ≡ pos 0
  unfolding nobody
  fresh_owed = ap open_owed (fresh_account new i)

  pub fresh_days : open_days (account_at (fresh new) i) ≡ pos 0
  unfolding nobody
  fresh_days = ap open_days (fresh_account new i)

  pub fresh_notice : (account_at (fresh new) i).today.notice ≡ no_notice
  unfolding nobody no_today
  fresh_notice = ap (λ (a : Account). a.today.notice) (fresh_account new i)

  pub fresh_shut : (account_at (fresh new) i).opened ≡ false
  unfolding nobody
  fresh_shut = ap (λ (a : Account). a.opened) (fresh_account new i)
