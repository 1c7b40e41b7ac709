-- An entry wrong by itself is refused for that; else what is asked of the ledger and the day decides, in ascending order.
use mathlib.Core.Path.{◌∙◌, refl}
use Rattle.tariff.proofs.Calendar.{same_derived}
use Rattle.ledger.proofs.Admissions.{standing}
use Rattle.ledger.specs.Refusals.{number}
use Rattle.ledger.proofs.admission.admission.Goals as goal

pub returns-then-ledger-ne : goal.returns-then-ledger-ne
unfolding number
returns-then-ledger-ne c =
    standing c.args.ledger.now c.args.entry c.in_ok-e.e.entry c.in_ok-e.e.kind c.in_ok-e.ensures.0 c.in_ok-e.ensures.1 c.in_ok-e.e.named _ _ _ _ _ c.in_range.ensures c.ne.ensures refl refl refl
    ∙ rw (c.if-not-in_range.false, c.if-ledger-ne.true)

pub returns-then-wrong_day : goal.returns-then-wrong_day
unfolding number
returns-then-wrong_day c =
    standing c.args.ledger.now c.args.entry c.in_ok-e.e.entry c.in_ok-e.e.kind c.in_ok-e.ensures.0 c.in_ok-e.ensures.1 c.in_ok-e.e.named _ _ _ _ _ c.in_range.ensures c.ne.ensures (c.eq.ensures ∙ same_derived c.args.entry.date c.args.ledger.now.date) c.retired.ensures c.wrong_day.ensures
    ∙ rw (c.if-not-in_range.false, c.if-ledger-ne.false, c.if-ledger-eq.false, c.if-retired.false, c.if-wrong_day.true)

pub returns : goal.returns
returns c = (
  standing c.args.ledger.now c.args.entry c.in_ok-e.e.entry c.in_ok-e.e.kind c.in_ok-e.ensures.0 c.in_ok-e.ensures.1 c.in_ok-e.e.named _ _ _ _ _ c.in_range.ensures c.ne.ensures (c.eq.ensures ∙ same_derived c.args.entry.date c.args.ledger.now.date) c.retired.ensures c.wrong_day.ensures
      ∙ rw (c.if-not-in_range.false, c.if-ledger-ne.false, c.if-ledger-eq.false, c.if-retired.false, c.if-wrong_day.false),
  c.in_ok-e.ensures.1,
)

pub returns-then-ledger-eq : goal.returns-then-ledger-eq
unfolding number
returns-then-ledger-eq c =
    standing c.args.ledger.now c.args.entry c.in_ok-e.e.entry c.in_ok-e.e.kind c.in_ok-e.ensures.0 c.in_ok-e.ensures.1 c.in_ok-e.e.named _ _ _ _ _ c.in_range.ensures c.ne.ensures (c.eq.ensures ∙ same_derived c.args.entry.date c.args.ledger.now.date) refl refl
    ∙ rw (c.if-not-in_range.false, c.if-ledger-ne.false, c.if-ledger-eq.true)

pub returns-then-retired : goal.returns-then-retired
unfolding number
returns-then-retired c =
    standing c.args.ledger.now c.args.entry c.in_ok-e.e.entry c.in_ok-e.e.kind c.in_ok-e.ensures.0 c.in_ok-e.ensures.1 c.in_ok-e.e.named _ _ _ _ _ c.in_range.ensures c.ne.ensures (c.eq.ensures ∙ same_derived c.args.entry.date c.args.ledger.now.date) c.retired.ensures refl
    ∙ rw (c.if-not-in_range.false, c.if-ledger-ne.false, c.if-ledger-eq.false, c.if-retired.true)
