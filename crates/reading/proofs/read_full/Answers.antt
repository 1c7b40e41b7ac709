-- A read puts its bytes right after those that were there, and the input loses them after those.
use Rattle.std.proofs.Common.{◌≡◌, ℕ, ◌+◌, ◌≤◌, List, ◌++◌, rules, length, take, drop, sym, ap, ◌∙◌, subst, le_refl, drop_at, length-take-le}
use Rattle.std.proofs.lemmas.Slice.{take-put_mid_below}
use Rattle.std.specs.Io.KnownBytes.{Consumes}
use Rattle.std.proofs.KnownBytes.{Consumes-trans}
use borrow.Rule.Slice.PartMut.{put_mid, post_of}
use lib.Seq.{take-add, take-append-le}
use Rattle.reading.proofs.read_full.Goals as goal

filled : (d k n : ℕ) (xs ys : List ℕ) → d ≤ length xs → n ≤ length ys → take (d + n) (put_mid d k xs ys) ≡ take d xs ++ take n ys
filled d k n xs ys within fits =
    let first : take d (put_mid d k xs ys) ≡ take d xs = take-put_mid_below _ _ _ _ _ (le_refl _) within in
    let then : take n (drop d (put_mid d k xs ys)) ≡ take n ys =
    ap (take n) (drop_at (take d xs) (ys ++ post_of d k xs) d (length-take-le d xs within)) ∙ take-append-le n ys (post_of d k xs) fits in
    take-add d n (put_mid d k xs ys) ∙ (λ i. first i ++ then i)

pub loop-done-preserved : goal.loop-done-preserved
loop-done-preserved g c = record {
  within = search rules;
  bytes =
      subst (Consumes _ _) (sym (filled c.loop-done.done _ c.in-Ok.n c.loop-done.buf c.read.new.buf c.loop-done.invariant.within c.in-Ok.ensures.bound.0))
      (Consumes-trans _ _ _ _ _ c.loop-done.invariant.bytes c.in-Ok.ensures.bytes.0);
}
