-- A bank joins the figure and leaves those still to come; each is in range, and at the end none is left.
use borrow.Author.Rules.{rules}
use native.Mathlib.Omega.{arith}
use mathlib.Core.Path.{◌∙◌, ◌≡◌, sym}
use Prim.Native.Nat.{◌≤◌}
use lib.IntN.{+ℤ_idl}
use lib.ListN.{length}
use Rattle.ledger.proofs.Banks.{banks_end, banks_next, size_none}
use Rattle.ledger.proofs.Bounded.{account_ranged, bounded}
use Rattle.ledger.proofs.Lists.{length_mapped}
use Rattle.ledger.specs.Panel.{open_banks}
use Rattle.ledger.specs.State.{account_at, no_month, no_today, no_totals, nobody}
use Rattle.tariff.proofs.Laws.{sum_value}
use Rattle.tariff.specs.Amounts.{size}
use Rattle.ledger.proofs.panels.open_banks.Goals as goal

one_bank : (c : goal.After-open_bank) → size c.open_bank.result ≤ 100000000000
unfolding nobody no_totals no_month no_today account_at
one_bank c =
    let sixteen : length c.args.ledger.now.accounts ≡ 16 = search (rules, length_mapped) in
    omega (arith, c.open_bank.ensures.bounded, (bounded (account_at c.args.ledger.now c.loop-a.a-index) (account_ranged c.args.ledger.now c.loop-a.a-index sixteen (omega arith) c.requires)).bank)

pub loop-a-init : goal.loop-a-init
loop-a-init c = record { whole = +ℤ_idl (open_banks c.args.ledger.now.accounts); small = omega (arith, size_none) }

pub add-figure-requires : goal.add-figure-requires
add-figure-requires c = omega (arith, one_bank c, c.loop-a.invariant.small)

pub loop-a-preserved : goal.loop-a-preserved
unfolding nobody no_totals no_month no_today
loop-a-preserved c =
    let sixteen : length c.args.ledger.now.accounts ≡ 16 = search (rules, length_mapped) in
    record {
      whole =
          rw (c.add-figure.ensures.0, sum_value c.loop-a.figure c.open_bank.result, c.open_bank.ensures.value)
          (sym (banks_next c.args.ledger.now.accounts c.loop-a.a-index nobody c.loop-a.figure.0 (omega (arith, sixteen))) ∙ c.loop-a.invariant.whole);
      small = omega (arith, c.add-figure.ensures.1, one_bank (search), c.loop-a.invariant.small);
    }

pub returns : goal.returns
returns c =
    let sixteen : length c.args.ledger.now.accounts ≡ 16 = search (rules, length_mapped) in
    sym (banks_end c.args.ledger.now.accounts c.loop-a.a-index c.loop-a.figure.0 (omega (arith, sixteen))) ∙ c.loop-a.invariant.whole
