-- What giving and taking make of an account: it stays in its ranges where they answer 0, its bank moves by the quantity, and nothing else of it moves.
use mathlib.Core.Path.{◌≡◌, refl}
use mathlib.Core.Bool.{true}
use lib.IntN.{ℤ, pos, neg_ℤ, ◌+ℤ◌}
use borrow.Author.Tests.{not-false}
use Rattle.tariff.specs.Amounts.{more, less}
use Rattle.ledger.specs.Structs.{Account, Change, Month, Quantity}
use Rattle.tariff.proofs.Laws.{more_value, less_value}
use Rattle.ledger.specs.Gas.{after_giving, after_taking, giving_checks, taking_checks, giving, taking}
use Rattle.ledger.specs.Panel.{open_bank}
use Rattle.ledger.specs.Ranges.{account_in_range}
use Rattle.ledger.specs.State.{with_bank}
use Rattle.ledger.proofs.Verdicts.{clear}
use Rattle.ledger.proofs.ClosedAccounts.{open_owed, open_days, grows}

-- a change of a, whose bank grows by y
pub record Moved (a : Account) (y : ℤ) (c : Change) : Type 0 where
  pub ranged : c.number ≡ 0 → account_in_range c.account ≡ true
  pub bank : a.opened ≡ true → open_bank c.account ≡ open_bank a +ℤ y
  pub debt : open_owed c.account ≡ open_owed a
  pub days : open_days c.account ≡ open_days a
  pub letter : c.account.today.notice ≡ a.today.notice
  pub opened : c.account.opened ≡ a.opened

module _ (m : Month) (a : Account) (q : Quantity) where
  pub gives : Moved a (neg_ℤ (pos q.0)) (giving m a q)
  unfolding giving giving_checks after_giving with_bank open_bank
  gives =
      record {
        ranged = λ o. not-false (account_in_range (after_giving a q)) (clear _ refl o 1);
        bank = λ o. grows a.opened (less a.bank q).0 a.bank.0 (neg_ℤ (pos q.0)) o (less_value a.bank q);
        debt = refl;
        days = refl;
        letter = refl;
        opened = refl;
      }

  pub takes : Moved a (pos q.0) (taking m a q)
  unfolding taking taking_checks after_taking with_bank open_bank
  takes =
      record {
        ranged = λ o. not-false (account_in_range (after_taking a q)) (clear _ refl o 1);
        bank = λ o. grows a.opened (more a.bank q).0 a.bank.0 (pos q.0) o (more_value a.bank q);
        debt = refl;
        days = refl;
        letter = refl;
        opened = refl;
      }
