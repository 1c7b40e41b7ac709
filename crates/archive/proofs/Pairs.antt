-- A right directory's pairs follow each other up to the file's end, so each lies within the file and holds whole entries.
use borrow.Author.Tests.{eqb-true, ltb-true, ne_eqb}
use native.Mathlib.Omega.{arith}
use Prim.Native.Nat.{ℕ, zero, suc, ◌+◌, ◌*◌, ◌-◌, ◌/◌, ◌%◌, ◌<◌, ◌≤◌}
use mathlib.Core.Path.{◌≡◌, refl, ap, ap₂, sym, ◌∙◌}
use Rattle.std.proofs.Common.{get_or-take, get_or-drop}
use mathlib.Core.Bool.{true, false, ◌&&◌}
use mathlib.Core.List.{List, [], ◌∷◌, map}
use lib.Dec.{eqb, ltb}
use lib.Seq.{drop-cons}
use lib.ListN.{length, get_or, take, drop, length-take, length-drop, get_or-map}
use Rattle.tariff.proofs.Bools.{and_left, and_right}
use Rattle.std.specs.Simd.{first_chunks}
use Rattle.ledger.specs.Entries.{word_at}
use Rattle.ledger.proofs.Fields.{word_bytes}
use Rattle.archive.specs.Layout.{body_at}
use Rattle.archive.specs.Reading.{Pair, pair_at, pair_in, pairs_from, pairs_of, right_length, right_pairs, right_directory, section_count}

pub length_pairs : (a : List ℕ) (i n : ℕ) → length (pairs_from a i n) ≡ n
unfolding pairs_from
length_pairs a i zero = refl
length_pairs a i (suc n) = ap suc (length_pairs a (i + 1) n)

-- ---- a right pair

pub record Held (size : ℕ) (p : Pair) : Type 0 where
  pub within : p.0 + p.1 ≤ size
  pub multiple : p.1 % 32 ≡ 0

length_right : (n : ℕ) → right_length n ≡ true → (0 < n) × (n % 32 ≡ 0)
unfolding right_length
length_right n h = (ltb-true 0 n (and_left (ltb 0 n) (eqb (n % 32) 0) h), eqb-true (n % 32) 0 (and_right (ltb 0 n) (eqb (n % 32) 0) h))

module _ (size end : ℕ) (p : Pair) (ps : List Pair) (h : right_pairs size end (p ∷ ps) ≡ true) where
  right_head : (eqb p.0 end && right_length p.1) ≡ true
  unfolding right_pairs
  right_head = and_left (eqb p.0 end && right_length p.1) (right_pairs size (end + p.1) ps) h

  pub right_start : p.0 ≡ end
  right_start = eqb-true p.0 end (and_left (eqb p.0 end) (right_length p.1) right_head)

  pub right_length_lem : (0 < p.1) × (p.1 % 32 ≡ 0)
  right_length_lem = length_right p.1 (and_right (eqb p.0 end) (right_length p.1) right_head)

  pub right_rest : right_pairs size (end + p.1) ps ≡ true
  unfolding right_pairs
  right_rest = and_right (eqb p.0 end && right_length p.1) (right_pairs size (end + p.1) ps) h

pub right_end : (size end : ℕ) (ps : List Pair) → right_pairs size end ps ≡ true → end ≤ size
unfolding right_pairs
right_end size end [] h = let e = eqb-true end size h in omega arith
right_end size end (p ∷ ps) h = let r = right_end size (end + p.1) ps (right_rest size end p ps h) in omega arith

pub first_held : (size end : ℕ) (p : Pair) (ps : List Pair) → right_pairs size end (p ∷ ps) ≡ true → Held size p
first_held size end p ps h =
    let e = right_start size end p ps h in
    let l = right_length_lem size end p ps h in
    let r = right_end size (end + p.1) ps (right_rest size end p ps h) in
    record { within = omega arith; multiple = l.1 }

-- the last pair is the one that ends with the file
pub last_pair : (size end : ℕ) (ps : List Pair) → right_pairs size end ps ≡ true → eqb end size ≡ eqb (length ps) 0
unfolding right_pairs
last_pair size end [] h = h
last_pair size end (p ∷ ps) h =
    let l = right_length_lem size end p ps h in
    let r = right_end size (end + p.1) ps (right_rest size end p ps h) in
    ne_eqb end size (λ e. omega arith) ∙ sym (ne_eqb (suc (length ps)) 0 (λ z. omega arith))

held_from : (a : List ℕ) (end j n i : ℕ) → right_pairs (length a) end (pairs_from a j n) ≡ true → i < n → Held (length a) (pair_at a (j + i))
unfolding pairs_from
held_from a end j zero i h k = absurd (omega arith)
held_from a end j (suc n) zero h k = let z : j + 0 ≡ j = omega arith in rw z (first_held (length a) end (pair_at a j) (pairs_from a (j + 1) n) h)
held_from a end j (suc n) (suc i) h k =
    let z : j + suc i ≡ j + 1 + i = omega arith in
    rw z (held_from a (end + (pair_at a j).1) (j + 1) n i (right_rest (length a) end (pair_at a j) (pairs_from a (j + 1) n) h) (omega arith))

pub pair_held : (a : List ℕ) (i : ℕ) → right_directory a ≡ true → i < section_count a → Held (length a) (pair_at a i)
unfolding right_directory pairs_of
pair_held a i h k = let z : 0 + i ≡ i = omega arith in rw z at (held_from a (body_at (section_count a)) 0 (section_count a) i h k)

-- ---- the directory cut into eights

-- a word of eight bytes is a word of all
word_here : (a p : List ℕ) (i at : ℕ) → at + 4 ≤ 8 → ((j : ℕ) → j < 8 → get_or p j 0 ≡ get_or a (i + j) 0) → word_at (take 8 p) at ≡ word_at a (i + at)
word_here a p i at s h =
    let byte : (j : ℕ) → j < 8 → get_or (take 8 p) j 0 ≡ get_or a (i + j) 0 = λ j l. get_or-take 8 p j 0 l ∙ h j l in
    let one : i + (at + 1) ≡ i + at + 1 = omega arith in
    let two : i + (at + 2) ≡ i + at + 2 = omega arith in
    let three : i + (at + 3) ≡ i + at + 3 = omega arith in
    let b₀ = byte at (omega arith) in
    let b₁ : get_or (take 8 p) (at + 1) 0 ≡ get_or a (i + at + 1) 0 = rw one at (byte (at + 1) (omega arith)) in
    let b₂ : get_or (take 8 p) (at + 2) 0 ≡ get_or a (i + at + 2) 0 = rw two at (byte (at + 2) (omega arith)) in
    let b₃ : get_or (take 8 p) (at + 3) 0 ≡ get_or a (i + at + 3) 0 = rw three at (byte (at + 3) (omega arith)) in
    word_bytes (take 8 p) at ∙ rw (b₀, b₁, b₂, b₃) (sym (word_bytes a (i + at)))

pair_here : (a p : List ℕ) (i : ℕ) → ((j : ℕ) → j < 8 → get_or p j 0 ≡ get_or a (8 + 8 * i + j) 0) → pair_in (take 8 p) ≡ pair_at a i
unfolding pair_in pair_at
pair_here a p i h =
    let start : 8 + 8 * i + 0 ≡ 8 + 8 * i = omega arith in
    let size : 8 + 8 * i + 4 ≡ 12 + 8 * i = omega arith in
    ap₂ (λ s l. (s, l)) (rw start at (word_here a p (8 + 8 * i) 0 (omega arith) h)) (rw size at (word_here a p (8 + 8 * i) 4 (omega arith) h))

pairs_here : (a p : List ℕ) (i n : ℕ) → ((j : ℕ) → j < 8 * n → get_or p j 0 ≡ get_or a (8 + 8 * i + j) 0) → map pair_in (first_chunks 8 n p) ≡ pairs_from a i n
unfolding pairs_from
pairs_here a p i zero h = refl
pairs_here a p i (suc n) h =
    let next : (j : ℕ) → j < 8 * n → get_or (drop 8 p) j 0 ≡ get_or a (8 + 8 * (i + 1) + j) 0 =
    λ j l. let k : 8 + 8 * i + (8 + j) ≡ 8 + 8 * (i + 1) + j = omega arith in get_or-drop 8 p j 0 ∙ rw k at (h (8 + j) (omega arith)) in
    ap₂ (λ q qs. q ∷ qs) (pair_here a p i (λ j l. h j (omega arith))) (pairs_here a (drop 8 p) (i + 1) n next)

pub pairs_cut : (a : List ℕ) (n : ℕ) (ps : List (List ℕ)) → n ≡ section_count a → 8 + 8 * section_count a ≤ length a
    → ps ≡ first_chunks 8 (length (take (8 + 8 * n - 8) (drop 8 a)) / 8) (take (8 + 8 * n - 8) (drop 8 a)) → map pair_in ps ≡ pairs_of a
unfolding pairs_of
pairs_cut a n ps e h q =
    let m : length (take (8 + 8 * n - 8) (drop 8 a)) / 8 ≡ n = rw (length-take, length-drop) (omega arith) in
    rw (q, m, e) (pairs_here a (take (8 + 8 * section_count a - 8) (drop 8 a)) 0 (section_count a) (λ j l. get_or-take (8 + 8 * section_count a - 8) (drop 8 a) j 0 (omega arith) ∙ get_or-drop 8 a j 0))

-- the pairs from k on, as a loop meets them
pub pairs_left : (ps : List (List ℕ)) (k : ℕ) (d : List ℕ) → k < length ps → map pair_in (drop k ps) ≡ pair_in (get_or ps k d) ∷ map pair_in (drop (k + 1) ps)
pairs_left ps k d h =
    let j : suc k ≡ k + 1 = omega arith in
    ap (map pair_in) (rw j at (drop-cons ps k d h))

pub pairs_done : (ps : List (List ℕ)) (k : ℕ) → length ps ≤ k → map pair_in (drop k ps) ≡ []
pairs_done ps k h = go (drop k ps) (rw length-drop (omega arith))
  where
    go : (qs : List (List ℕ)) → length qs ≡ 0 → map pair_in qs ≡ []
    go [] e = refl
    go (q ∷ qs) e = absurd (omega arith)

-- ---- whether the directory is right: the pairs from k on, after the end reached, are right just where all are, as those before were

pub record RightSoFar (a : List ℕ) (ps : List (List ℕ)) (k end : ℕ) : Type 0 where
  pub few : length ps ≤ 1200
  pub small : end ≤ 9608 + 4294967296 * k
  pub same : right_pairs (length a) end (map pair_in (drop k ps)) ≡ right_directory a

pub right_at_first : (a : List ℕ) (ps : List (List ℕ)) (n : ℕ) → n ≡ section_count a → section_count a ≤ 1200 → length ps ≡ section_count a → map pair_in ps ≡ pairs_of a → RightSoFar a ps 0 (8 + 8 * n)
unfolding right_directory body_at
right_at_first a ps n e f l q = record { few = omega arith; small = omega arith; same = rw (q, e) }

module _ (a : List ℕ) (ps : List (List ℕ)) (k end : ℕ) (r : RightSoFar a ps k end) where
  pub all_right : length ps ≤ k → eqb end (length a) ≡ right_directory a
  unfolding right_pairs
  all_right h = rw (pairs_done ps k h) at r.same

  module _ (d : List ℕ) (more : k < length ps) (o l : ℕ) (p : o ≡ (pair_in (get_or ps k d)).0) (q : l ≡ (pair_in (get_or ps k d)).1) where
    pub pair_wrong : (eqb o end && (ltb 0 l && eqb (l % 32) 0)) ≡ false → false ≡ right_directory a
    unfolding right_pairs right_length
    pair_wrong t = cc (rw (pairs_left ps k d more) at r.same)

    pub pair_right : (eqb o end && (ltb 0 l && eqb (l % 32) 0)) ≡ true → l < 4294967296 → RightSoFar a ps (k + 1) (end + l)
    unfolding right_pairs right_length
    pair_right t b =
        record {
          few = r.few;
          small = omega (arith, r);
          same = cc (rw (pairs_left ps k d more) at r.same);
        }

-- ---- pair i, as it is asked by its number

pair_from : (a : List ℕ) (j n i : ℕ) (d : Pair) → i < n → get_or (pairs_from a j n) i d ≡ pair_at a (j + i)
unfolding pairs_from
pair_from a j zero i d h = absurd (omega arith)
pair_from a j (suc n) zero d h = let z : j + 0 ≡ j = omega arith in rw z
pair_from a j (suc n) (suc i) d h = let z : j + 1 + i ≡ j + suc i = omega arith in rw z at (pair_from a (j + 1) n i d (omega arith))

module _ (a : List ℕ) (ps : List (List ℕ)) (i : ℕ) (d : List ℕ) (q : map pair_in ps ≡ pairs_of a) (l : length ps ≡ section_count a) (h : i < length ps) where
  pub pair_found : pair_in (get_or ps i d) ≡ pair_at a i
  unfolding pairs_of
  pair_found = let e : get_or (map pair_in ps) i (pair_in d) ≡ pair_in (get_or ps i d) = get_or-map pair_in ps i d in
      let z : 0 + i ≡ i = omega arith in
      let f : get_or (pairs_from a 0 (section_count a)) i (pair_in d) ≡ pair_at a i = rw z at (pair_from a 0 (section_count a) i (pair_in d) (omega arith)) in
      sym e ∙ rw q f
