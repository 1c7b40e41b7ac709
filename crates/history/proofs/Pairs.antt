-- A letter moves gas at most once: as a second one at its own place, or as a first one, which it is while it stands and no longer.
use Prim.Native.Nat.{ℕ, suc, ◌+◌, ◌<◌, ◌≤◌}
use mathlib.Core.Path.{◌≡◌, refl, ap, ◌∙◌}
use mathlib.Core.Bool.{Bool, true, false, cond, not}
use mathlib.Core.List.{List, [], ◌∷◌, ◌++◌}
use native.Mathlib.Omega.{arith}
use lib.Dec.{eqb, ltb}
use lib.ListN.{length, get_or}
use borrow.Author.Tests.{eqb-true, eqb-false, ne_eqb, ltb-true, ltb-false, lt-ltb, le-ltb}
use Rattle.std.specs.Prelude.{All}
use Rattle.std.proofs.lemmas.List.Sums.{sum_by-cons}
use Rattle.std.proofs.lemmas.List.Elements.{All-nil, All-cons, All-append, All-map, All-filter, filter_passes}
use Rattle.tariff.proofs.Bools.{either, and_left}
use Rattle.ledger.specs.Running.{Line}
use Rattle.ledger.specs.declared.entries.Entry.{Entry}
use Rattle.history.specs.History.{Letter, Known, Pair, start, entry, closes, crosses, met, left, completes, standing_after, after, paired, pairs, moves, entry_at, AreLetters}
use Rattle.history.proofs.Letters.{Orderly, one_met}

-- ---- a letter stands at one place

-- how many of some letters stand from place n
unfoldable pub held : ℕ → List Letter → ℕ
held n [] = 0
held n (s ∷ ss) = cond (eqb s.place n) 1 0 + held n ss

held_below : (m n : ℕ) (ss : List Letter) → Orderly m ss → m ≤ n → held n ss ≡ 0
unfolding held Orderly
held_below m n [] o h = refl
held_below m n (s ∷ ss) o h = rw (ne_eqb s.place n (λ z. omega (arith, z, o.0, h))) (omega (arith, held_below s.place n ss o.3 (omega (arith, o.0))))

held_split : (e : Entry) (n : ℕ) (ss : List Letter) → held n (met e ss) + held n (left e ss) ≡ held n ss
unfolding held met left
held_split e n [] = refl
held_split e n (s ∷ ss) = go (crosses s.entry e) (held_split e n ss)
  where
    go : (c : Bool) → held n (met e ss) + held n (left e ss) ≡ held n ss
        → held n (cond c (s ∷ met e ss) (met e ss)) + held n (cond (not c) (s ∷ left e ss) (left e ss)) ≡ cond (eqb s.place n) 1 0 + held n ss
    go true r = omega (arith, r)
    go false r = omega (arith, r)

-- ---- how often a letter moves gas

-- by one pair more
moves_more : (n : ℕ) (p : Pair) (ps : List Pair) → moves n (p ∷ ps) ≡ cond (eqb p.first n) 1 0 + cond (eqb p.second n) 1 0 + moves n ps
unfolding moves
moves_more n p ps =
    omega (arith, sum_by-cons (λ (q : Pair). cond (eqb q.first n) 1 0) p ps, sum_by-cons (λ (q : Pair). cond (eqb q.second n) 1 0) p ps)

-- by the letters that one at a place answers
moves_paired : (n place : ℕ) (ss : List Letter) (ps : List Pair) → moves n (paired place ss ++ ps) ≡ held n ss + cond (eqb place n) (length ss) 0 + moves n ps
unfolding held paired
moves_paired n place [] ps = either (λ (m : ℕ). moves n ps ≡ 0 + m + moves n ps) (eqb place n) 0 0 (λ z. omega arith) (λ z. omega arith)
moves_paired n place (s ∷ ss) ps = moves_more n (record { first = s.place; second = place }) (paired place ss ++ ps) ∙ go (eqb place n) (moves_paired n place ss ps)
  where
    go : (t : Bool) → moves n (paired place ss ++ ps) ≡ held n ss + cond t (length ss) 0 + moves n ps
        → cond (eqb s.place n) 1 0 + cond t 1 0 + moves n (paired place ss ++ ps) ≡ cond (eqb s.place n) 1 0 + held n ss + cond t (suc (length ss)) 0 + moves n ps
    go true r = omega (arith, r)
    go false r = omega (arith, r)

-- how often at most: while it stands once, when it is past never, and before it has come once
unfoldable pub most : ℕ → Known → ℕ
most n k = cond (ltb n k.place) (held n k.standing) 1

pub none_moves : (n : ℕ) (k : Known) → moves n [] ≤ most n k
unfolding moves
none_moves n k = omega arith

pub most_at_start : (n : ℕ) → most n start ≡ 1
unfolding most start
most_at_start n = rw (le-ltb n 0 (omega arith))

-- ---- one posting more, before a list

module _ (k : Known) (x : Line) (ps : List Pair) (o : Orderly k.place k.standing) (n : ℕ) where
  -- a second letter is no closing
  completing : completes k x ≡ true → closes x ≡ false
  unfolding completes closes
  completing h = let is = eqb-true (entry x).kind 12 (and_left _ _ h) in rw (ne_eqb (entry x).kind 8 (λ z. omega (arith, is, z)), ne_eqb (entry x).kind 9 (λ z. omega (arith, is, z)))

  -- which letters stand afterwards: none, the others, one more, or the same
  held_after : completes k x ≡ false → held n (standing_after k x) ≤ held n k.standing + cond (eqb k.place n) 1 0
  unfolding standing_after held
  held_after h =
      rw h (
      either (λ (ss : List Letter). held n ss ≤ held n k.standing + cond (eqb k.place n) 1 0) (closes x) [] _
      (λ z. omega arith)
      (λ z. either (λ (ss : List Letter). held n ss ≤ held n k.standing + cond (eqb k.place n) 1 0) (eqb (entry x).kind 12) _ _ (λ y. omega arith) (λ y. omega arith))
      )

  -- the others, after a second letter
  held_left : completes k x ≡ true → held n (standing_after k x) ≡ held n (left (entry x) k.standing)
  unfolding standing_after
  held_left h = rw (completing h, h)

  abbrev answers : List Letter
  answers = met (entry x) k.standing

  abbrev here : ℕ
  here = moves n (cond (completes k x) (paired k.place answers) [] ++ ps)

  once : (t : Bool) → moves n ps ≤ held n (left (entry x) k.standing) → held n answers + cond t (length answers) 0 + moves n ps ≤ held n k.standing + cond t 1 0
  once true h = omega (arith, h, held_split (entry x) n k.standing, one_met (entry x) k.place k.standing o)
  once false h = omega (arith, h, held_split (entry x) n k.standing)

  up_to_place : moves n ps ≤ held n (standing_after k x) → here ≤ held n k.standing + cond (eqb k.place n) 1 0
  up_to_place h =
      either (λ (qs : List Pair). moves n (qs ++ ps) ≤ held n k.standing + cond (eqb k.place n) 1 0) (completes k x) (paired k.place answers) []
      (λ z. rw (moves_paired n k.place answers ps) (once (eqb k.place n) (omega (arith, h, held_left z))))
      (λ z. omega (arith, h, held_after z))

  past_place : k.place < n → moves n ps ≤ 1 → here ≤ 1
  past_place h b =
      either (λ (qs : List Pair). moves n (qs ++ ps) ≤ 1) (completes k x) (paired k.place answers) []
      (λ z. rw (moves_paired n k.place answers ps, ne_eqb k.place n (λ y. omega (arith, h, y))) (omega (arith, b, held_split (entry x) n k.standing, held_below k.place n k.standing o (omega (arith, h)))))
      (λ z. b)

  pub one_more : moves n ps ≤ most n (after k x) → here ≤ most n k
  unfolding after most
  one_more h = go (ltb n k.place) (eqb k.place n) refl refl
    where
      so_far : n ≤ k.place → here ≤ held n k.standing + cond (eqb k.place n) 1 0
      so_far b = up_to_place (rw (lt-ltb n (suc k.place) (omega (arith, b))) at h)

      go : (t u : Bool) → ltb n k.place ≡ t → eqb k.place n ≡ u → here ≤ cond t (held n k.standing) 1
      go true u z y = let b = ltb-true n k.place z in omega (arith, rw (ne_eqb k.place n (λ q. omega (arith, b, q))) at (so_far (omega (arith, b))))
      go false true z y = let q = eqb-true k.place n y in omega (arith, held_below k.place n k.standing o (omega (arith, q)), rw y at (so_far (omega (arith, q))))
      go false false z y =
          let b = ltb-false n k.place z in
          let q = eqb-false k.place n y in
          past_place (omega (arith, b, q)) (rw (le-ltb n (suc k.place) (omega (arith, b, q))) at h)

-- ---- a pair is two letters that answer one another

module _ (zs : List Line) where
  -- a letter of the list, at its place in it, which is one of the first n
  record Placed (n : ℕ) (s : Letter) : Type 0 where
    before : s.place < n
    here : entry_at zs s.place ≡ s.entry
    notice : s.entry.kind ≡ 12

  letters_paired : (e : Entry) (n : ℕ) (ss : List Letter) → entry_at zs n ≡ e → e.kind ≡ 12 → All (Placed n) ss → All (AreLetters zs) (paired n (met e ss))
  unfolding met paired
  letters_paired e n ss at is p =
      All-map (AreLetters zs) (λ (s : Letter). record { first = s.place; second = n }) (met e ss)
      (λ i d h. both (get_or (met e ss) i d) (All-filter (λ (s : Letter). crosses s.entry e) (Placed n) ss p i d h) (filter_passes (λ (s : Letter). crosses s.entry e) ss i d h))
    where
      both : (s : Letter) → Placed n s → crosses s.entry e ≡ true → AreLetters zs (record { first = s.place; second = n })
      both s p h = (p.before, rw p.here p.notice, rw at is, rw (p.here, at) h)

  -- one posting more
  module _ (k : Known) (x : Line) (at : entry_at zs k.place ≡ entry x) (p : All (Placed k.place) k.standing) where
    placed_after : All (Placed (suc k.place)) (standing_after k x)
    unfolding standing_after left
    placed_after =
        let P = Placed (suc k.place) in
        let same : All P k.standing = λ i d h. let q = p i d h in record { before = omega (arith, q.before); here = q.here; notice = q.notice } in
        either (All P) (closes x) [] _ (λ z. All-nil P)
        (λ z. either (All P) (completes k x) (left (entry x) k.standing) _ (λ y. All-filter (λ (s : Letter). not (crosses s.entry (entry x))) P k.standing same)
        (λ y. either (All P) (eqb (entry x).kind 12) _ k.standing
        (λ is. All-cons P (record { place = k.place; entry = entry x }) k.standing (record { before = omega arith; here = at; notice = eqb-true (entry x).kind 12 is }) same)
        (λ is. same)))

    letters_more : (ps : List Pair) → All (AreLetters zs) ps → All (AreLetters zs) (cond (completes k x) (paired k.place (met (entry x) k.standing)) [] ++ ps)
    unfolding completes
    letters_more ps r =
        either (λ (qs : List Pair). All (AreLetters zs) (qs ++ ps)) (completes k x) (paired k.place (met (entry x) k.standing)) []
        (λ z. All-append (AreLetters zs) (paired k.place (met (entry x) k.standing)) ps (letters_paired (entry x) k.place k.standing at (eqb-true (entry x).kind 12 (and_left _ _ z)) p) r)
        (λ z. r)

  -- all of the list from the place that is known on
  all_letters : (k : Known) (xs : List Line) → ((n : ℕ) → entry_at zs (k.place + n) ≡ entry_at xs n) → All (Placed k.place) k.standing → All (AreLetters zs) (pairs k xs)
  unfolding pairs after entry_at
  all_letters k [] h p = All-nil (AreLetters zs)
  all_letters k (x ∷ xs) h p =
      let first : k.place ≡ k.place + 0 = omega arith in
      let at : entry_at zs k.place ≡ entry x = ap (entry_at zs) first ∙ h 0 in
      letters_more k x at p (pairs (after k x) xs) (all_letters (after k x) xs (λ n. next n ∙ h (suc n)) (placed_after k x at p))
    where
      next : (n : ℕ) → entry_at zs (suc k.place + n) ≡ entry_at zs (k.place + suc n)
      next n = let same : suc k.place + n ≡ k.place + suc n = omega arith in ap (entry_at zs) same

pub letters_of : (xs : List Line) → All (AreLetters xs) (pairs start xs)
unfolding start
letters_of xs = all_letters xs start xs (λ n. let same : 0 + n ≡ n = omega arith in ap (entry_at xs) same) (All-nil (Placed xs 0))
