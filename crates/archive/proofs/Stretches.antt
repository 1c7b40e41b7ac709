-- Each right pair begins where the one before it ends and the last ends the file: so the parts that they name leave no byte out, and stand in file order.
use borrow.Author.Tests.{eqb-true, eq-eqb, lt-ltb}
use native.Mathlib.Omega.{arith}
use Prim.Native.Nat.{ℕ, zero, suc, ◌+◌, ◌%◌, ◌<◌, ◌≤◌}
use mathlib.Core.Path.{◌≡◌, refl, sym, ap, ◌∙◌, subst}
use mathlib.Core.Bool.{true}
use mathlib.Core.List.{List, [], ◌∷◌, ◌++◌, map, append_assoc}
use lib.ListN.{length, get_or, take, drop, length-drop, length-append, take-append-drop, drop_of_length-le}
use lib.Seq.{length-take-le, drop-drop, take_at, drop_at}
use Rattle.archive.specs.Layout.{concatenated}
use Rattle.archive.specs.Reading.{Pair, pair_at, pairs_from, right_length, right_pairs, part_at}
use Rattle.archive.proofs.Pairs.{right_start, right_length_lem, right_rest}
use Rattle.archive.proofs.Partitions.{Good}
use Rattle.archive.proofs.Directories.{pairs_for}

-- ---- the pairs of good sections are right, and their parts are the sections

pub right_for : (ss : List (List ℕ)) (off end : ℕ) → Good ss → off + length (concatenated ss) ≡ end → right_pairs end off (pairs_for off ss) ≡ true
unfolding right_pairs right_length pairs_for concatenated
right_for [] off end g e = eq-eqb off end (omega arith)
right_for (s ∷ ss) off end g e =
    rw (eq-eqb off off refl, lt-ltb 0 (length s) g.0.some, eq-eqb (length s % 32) 0 g.0.whole)
    (right_for ss (off + length s) end g.1 (omega (arith, length-append s (concatenated ss))))

pub parts_for : (ss : List (List ℕ)) (a before : List ℕ) (off : ℕ) → a ≡ before ++ concatenated ss → length before ≡ off → map (part_at a) (pairs_for off ss) ≡ ss
unfolding pairs_for concatenated part_at
parts_for [] a before off e h = refl
parts_for (s ∷ ss) a before off e h =
    let here : take (length s) (drop off a) ≡ s = rw (e, drop_at before (s ++ concatenated ss) off h) (take_at s (concatenated ss) (length s) refl) in
    let next : a ≡ before ++ s ++ concatenated ss = e ∙ sym (append_assoc before s (concatenated ss)) in
    rw here (ap (λ r. s ∷ r) (parts_for ss a (before ++ s) (off + length s) next (rw length-append (omega arith))))

-- part i, of n parts from pair j on
pub part_at_lem : (a : List ℕ) (n j i : ℕ) → i < n → get_or (map (part_at a) (pairs_from a j n)) i [] ≡ part_at a (pair_at a (j + i))
unfolding pairs_from
part_at_lem a zero j i h = absurd (omega arith)
part_at_lem a (suc n) j zero h = let k : j + 0 ≡ j = omega arith in rw k
part_at_lem a (suc n) j (suc i) h = let k : j + suc i ≡ j + 1 + i = omega arith in rw k (part_at_lem a n (j + 1) i (omega arith))

-- ---- right pairs: theirs are good sections, and all of the file from the offset on

pub record Parted (a : List ℕ) (off : ℕ) (ps : List Pair) : Type 0 where
  pub named : ps ≡ pairs_for off (map (part_at a) ps)
  pub good : Good (map (part_at a) ps)
  pub all : concatenated (map (part_at a) ps) ≡ drop off a
  pub within : off ≤ length a

one_more : (a : List ℕ) (p : Pair) (ps : List Pair) → (0 < p.1) × (p.1 % 32 ≡ 0) → Parted a (p.0 + p.1) ps → Parted a p.0 (p ∷ ps)
unfolding pairs_for concatenated part_at
one_more a p ps h t =
    let size : length (part_at a p) ≡ p.1 = length-take-le p.1 (drop p.0 a) (rw length-drop (omega (arith, t.within))) in
    record {
      named = rw size (ap (λ r. p ∷ r) t.named);
      good = (record { some = rw size h.0; whole = rw size h.1 }, t.good);
      all = rw (t.all, ← drop-drop p.1 p.0 a) (take-append-drop p.1 (drop p.0 a));
      within = omega (arith, t.within);
    }

pub parted : (a : List ℕ) (ps : List Pair) (off : ℕ) → right_pairs (length a) off ps ≡ true → Parted a off ps
unfolding right_pairs pairs_for concatenated
parted a [] off h =
    let e : off ≡ length a = eqb-true off (length a) h in
    record { named = refl; good = tt; all = sym (drop_of_length-le a {i = off} (omega arith)); within = omega arith }
parted a (p ∷ ps) off h =
    subst (λ (k : ℕ). Parted a k (p ∷ ps)) (right_start (length a) off p ps h)
    (one_more a p ps (right_length_lem (length a) off p ps h) (rw (right_start (length a) off p ps h) (parted a ps (off + p.1) (right_rest (length a) off p ps h))))
