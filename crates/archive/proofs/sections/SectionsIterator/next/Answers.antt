-- What is cut off is the first section: it ends with the first closing, or with the list.
use Rattle.std.proofs.Common.{rules, ◌≡◌, refl, ap, length, arith}
use Rattle.std.proofs.lemmas.Fn.{always_returns_same}
use Rattle.archive.specs.Entries.{closes_month}
use Rattle.archive.proofs.Splits.{section_taken, none_cut}
use Rattle.archive.proofs.sections.SectionsIterator.next.Goals as goal

pub returns-clause-steps : goal.returns-clause-steps
returns-clause-steps c =
    let s = c.in_ok-section.ensures.steps in
    let f = s.1.2 closes_month (always_returns_same _ (λ a r. r ≡ closes_month a.0.now) c.split_inclusive.result.pred (λ a r f' h. (search rules, refl))) in
    section_taken c.args.self.now.0.now c.split_inclusive.result.rest.now c.in_ok-section.section.now c.next.new.self.rest.now s.1.0 c.split_inclusive.ensures.rest s.0 s.1.1 f.1 s.2

pub returns-in_err-section-clause-steps : goal.returns-in_err-section-clause-steps
returns-in_err-section-clause-steps c =
    let none = none_cut c.args.self.now.0.now c.split_inclusive.result.rest.now c.split_inclusive.ensures.rest c.in_err-section.ensures.steps.0 in rw c.from_residual.ensures (none, none)

pub returns-clause-goes : goal.returns-clause-goes
returns-clause-goes c = let e = ap length (returns-clause-steps c) in record { on = λ u. (tt, tt, omega arith); keeps = tt; rests = λ u. tt }
