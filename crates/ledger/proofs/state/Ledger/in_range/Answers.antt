-- The iterator asks each account in turn, as the rule does.
use Rattle.std.proofs.Common.{rules, tests}
use Rattle.std.proofs.lemmas.Iterator.{YieldsList-from_slice}
use Rattle.std.proofs.lemmas.Iterator.Search.{all_from_yields_List}
use Rattle.ledger.proofs.Lists.{every_is_all}
use Rattle.ledger.specs.Ranges.{account_in_range, in_range}
use Rattle.ledger.proofs.state.Ledger.in_range.Goals as goal

pub returns : goal.returns
unfolding in_range
returns c =
    let all = all_from_yields_List account_in_range _ _ c.all.result c.all.ensures.ran (YieldsList-from_slice c.args.self.now.accounts cc) (λ x b q k. search (rules, tests)) in
    rw (every_is_all account_in_range c.args.self.now.accounts, ← all, ← c.in_range.ensures, ← c.in_range-2.ensures, ← c.in_range-3.ensures)
