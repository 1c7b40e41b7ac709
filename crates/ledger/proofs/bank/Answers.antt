-- Of an account that exists the bank if it is open; past the sixteenth there is nobody, who has none.
use mathlib.Core.Path.{◌∙◌, ap, sym}
use lib.ListN.{get_or-eq_default}
use Rattle.ledger.specs.Panel.{bank_of, open_bank}
use Rattle.ledger.specs.State.{account_at, no_month, no_today, no_totals, nobody}
use Rattle.ledger.proofs.bank.Goals as goal

pub returns-in-Some : goal.returns-in-Some
unfolding bank_of account_at
returns-in-Some c = c.open_bank.ensures.value ∙ ap open_bank (c.in-Some.ensures.lookup.3.1 nobody)

pub returns-in-None : goal.returns-in-None
unfolding bank_of account_at open_bank nobody no_totals no_month no_today
returns-in-None c = sym (ap open_bank (get_or-eq_default c.args.ledger.accounts nobody c.in-None.ensures.lookup.3))
