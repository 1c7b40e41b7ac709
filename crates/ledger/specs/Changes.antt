-- What a posting makes of the one account that it concerns.
use Rattle.std.specs.Prelude.{ℕ}
use Rattle.ledger.specs.declared.state.Account.{Account}

-- R23: the number, and the account to be stored where that is 0.
pub record Change : Type 0 where
  pub number : ℕ
  pub account : Account
