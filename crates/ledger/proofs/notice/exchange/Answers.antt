-- A pair of letters is handed on as a TRANSFER is, from who gives to who takes; then the other's notice goes.
use Rattle.std.proofs.Common.{rules, arith}
use mathlib.Core.Path.{◌≡◌}
use mathlib.Core.Bool.{Bool, true, false, cond}
use Prim.Native.Nat.{ℕ, ◌<◌}
use Rattle.ledger.specs.Ranges.{account_in_range}
use Rattle.ledger.specs.State.{account_at, no_month, no_today, no_totals, nobody}
use Rattle.ledger.proofs.Exchanges.{exchange_stored}
use Rattle.ledger.proofs.Lists.{length_mapped}
use Rattle.ledger.proofs.TwoAccounts.{Pair, notice}
use Rattle.ledger.proofs.notice.exchange.Goals as goal
use Rattle.ledger.proofs.notice.exchange.Goals.{Start}

start : (c : Start) → Pair c.args.l.now c.args.e.entry
start c = notice c.args.l.now c.args.e (search (rules, length_mapped)) c.requires.0 c.requires.1

-- what holds of both parties holds of who gives, and of who takes
of_both : (P : ℕ → Type 0) (t : Bool) (a b i : ℕ) → i ≡ cond t a b → P a → P b → P i
of_both P true a b i is p q = rw is p
of_both P false a b i is p q = rw is q

pub hand_on-requires-clause-places : goal.hand_on-requires-clause-places
hand_on-requires-clause-places c =
    let p = start (search) in
    (of_both (λ i. i < 16) _ _ _ _ c.parties-from.ensures.0 p.b p.a, of_both (λ i. i < 16) _ _ _ _ c.parties-from.ensures.1 p.a p.b)

pub hand_on-requires-clause-in_range : goal.hand_on-requires-clause-in_range
hand_on-requires-clause-in_range c =
    let p = start (search) in (
      of_both (λ i. account_in_range (account_at c.args.l.now i) ≡ true) _ _ _ _ c.parties-from.ensures.0 p.named p.writes,
      of_both (λ i. account_in_range (account_at c.args.l.now i) ≡ true) _ _ _ _ c.parties-from.ensures.1 p.writes p.named,
      p.fits,
    )

pub offset_bounds-l-j : goal.offset_bounds-l-j
offset_bounds-l-j c = omega (arith, start (search))

pub bounds-l-j : goal.bounds-l-j
bounds-l-j c = (start (search)).b

pub offset_bounds-l-j-2 : goal.offset_bounds-l-j-2
offset_bounds-l-j-2 c = omega (arith, start (search))

pub bounds-l-j-2 : goal.bounds-l-j-2
bounds-l-j-2 c = (start (search)).b

pub returns : goal.returns
unfolding account_at nobody no_totals no_month no_today
returns c =
    let p = start (search) in
    exchange_stored c.args.l.now c.args.e.entry c.hand_on.new.l c.without_notice.result _ _ (search (rules, length_mapped)) p.a p.b p.apart c.parties-from.ensures.0 c.parties-from.ensures.1 c.in_ok-hand_on.ensures c.without_notice.ensures
