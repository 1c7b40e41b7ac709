-- The directory's pairs are asked by their number, and each lies within the file.
use Rattle.std.proofs.Common.{arith, ◌∙◌, ap}
use Rattle.archive.specs.Reading.{Pair, pair_in}
use Rattle.archive.proofs.Pairs.{pair_found, pair_held}
use Rattle.archive.proofs.reading.Archive.span.Goals as goal

pub returns : goal.returns
returns c =
    let k = c.in_ok-pair.ensures.lookup in
    let found = ap pair_in k.1 ∙ pair_found c.args.self.bytes.now c.pairs.result.now c.args.i c.in_ok-pair.pair.now c.pairs.ensures.pairs c.pairs.ensures.count k.3.0 in
    let held = pair_held c.args.self.bytes.now c.args.i c.args.self.directed (omega arith) in
    let start = c.from.ensures.0 ∙ ap (λ (p : Pair). p.0) found in
    let size = c.from.ensures.1 ∙ ap (λ (p : Pair). p.1) found in
    (omega arith, start, size, omega arith)
