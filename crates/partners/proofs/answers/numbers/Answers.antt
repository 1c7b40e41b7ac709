-- One number more takes the place of one 0, and past the last partner the others are 0 still.
use Rattle.std.proofs.Common.{◌≡◌, refl, ap, ◌∙◌, ℕ, suc, zero, ◌+◌, ◌-◌, ◌<◌, List, [], ◌∷◌, ◌++◌, map, take, length, arith}
use Rattle.std.proofs.Math.Numerals.{add-one}
use lib.ListN.{get_or, length-map, replicate, set}
use Rattle.std.proofs.lemmas.List.{take_all}
use Rattle.partners.specs.Listing.{answer}
use Rattle.partners.specs.Structs.{Partner}
use Rattle.partners.proofs.answers.numbers.Goals as goal

abbrev number : Partner → ℕ
number p = p.account

fill : (xs : List Partner) (k m : ℕ) (d : Partner) → k < length xs
    → set (map number (take k xs) ++ replicate (suc m) 0) k (number (get_or xs k d)) ≡ map number (take (suc k) xs) ++ replicate m 0
fill [] k m d h = absurd (omega arith)
fill (x ∷ xs) zero m d h = refl
fill (x ∷ xs) (suc k) m d h = ap (λ (ys : List ℕ). number x ∷ ys) (fill xs k m d (omega arith))

pub loop-k-preserved : goal.loop-k-preserved
loop-k-preserved c =
    let xs = c.as_slice-partner-items.result.now in
    let k = c.loop-k.k in
    let room : 16 - k ≡ suc (16 - (k + 1)) = let f = c.as_slice-partner-items.ensures.fits in omega arith in
    rw (c.loop-k.invariant, room, fill xs k (16 - (k + 1)) _ c.loop-k-test.true, add-one)

pub returns : goal.returns
unfolding answer
returns c =
    let xs = c.as_slice-partner-items.result.now in
    let at : c.loop-k.k ≡ length xs = let a = c.loop-k.auto.k-end in omega (arith, c.loop-k-test.false) in
    let all : take c.loop-k.k xs ≡ xs = take_all c.loop-k.k xs c.loop-k-test.false in
    rw (← c.as_slice-partner-items.ensures.value, length-map, ← at) (c.loop-k.invariant ∙ ap (λ (ys : List Partner). map number ys ++ replicate (16 - c.loop-k.k) 0) all)
