-- The list alone tells which letters stand: no two are of one writer, so a letter answers one of them at most, and each is answered once.
use Prim.Native.Nat.{ℕ, suc, ◌<◌, ◌≤◌}
use mathlib.Core.Path.{◌≡◌, refl, sym, ap, ◌∙◌}
use mathlib.Core.Bool.{Bool, true, false, cond, not, true≢false, false≢true}
use mathlib.Core.List.{List, [], ◌∷◌}
use native.Mathlib.Omega.{arith}
use lib.Dec.{eqb, ltb}
use lib.ListN.{length}
use borrow.Author.Tests.{eqb-true, eqb-false, lt-ltb}
use Rattle.tariff.proofs.Bools.{either, and_left}
use Rattle.std.specs.Prelude.{⊤}
use Rattle.ledger.specs.State.{no_notice}
use Rattle.ledger.specs.Notice.{written, awaits}
use Rattle.ledger.specs.declared.entries.Entry.{Entry}
use Rattle.ledger.specs.declared.state.Notice.{Notice}
use Rattle.ledger.proofs.Counterparts.{written_stands, none_awaits, written_awaits}
use Rattle.history.specs.History.{Letter, crosses, met, left, told}

-- ---- what standing letters tell of account i

-- the newest stands first, before place n, and is its writer's only one
unfoldable pub Orderly : ℕ → List Letter → Type 0
Orderly n [] = ⊤
Orderly n (s ∷ ss) = (s.place < n) × (s.entry.flags ≤ 1) × (told ss s.entry.a ≡ no_notice) × Orderly s.place ss

pub later : (m n : ℕ) (ss : List Letter) → Orderly m ss → m ≤ n → Orderly n ss
unfolding Orderly
later m n [] o h = tt
later m n (s ∷ ss) o h = (omega (arith, o.0), o.1, o.2, o.3)

-- a letter in front of the others tells of its writer
not_told : (s : Entry) (i : ℕ) (n : Notice) → cond (eqb s.a i) (written s) n ≡ no_notice → (eqb s.a i ≡ false) × (n ≡ no_notice)
not_told s i n = go (eqb s.a i)
  where
    go : (t : Bool) → cond t (written s) n ≡ no_notice → (t ≡ false) × (n ≡ no_notice)
    go true h = absurd (true≢false (sym (written_stands s) ∙ ap (λ (m : Notice). m.stands) h))
    go false h = (refl, h)

-- where nothing stands every member is 0
pub silent : (ss : List Letter) (i : ℕ) → (told ss i).stands ≡ false → told ss i ≡ no_notice
unfolding told
silent [] i = λ h. refl
silent (s ∷ ss) i = go (eqb s.entry.a i) (silent ss i)
  where
    go : (t : Bool) → ((told ss i).stands ≡ false → told ss i ≡ no_notice) → (cond t (written s.entry) (told ss i)).stands ≡ false → cond t (written s.entry) (told ss i) ≡ no_notice
    go true r h = absurd (true≢false (sym (written_stands s.entry) ∙ h))
    go false r h = r h

-- ---- the letters that a letter e answers

crossed_writer : (s e : Entry) → crosses s e ≡ true → s.a ≡ e.b
unfolding crosses
crossed_writer s e h = eqb-true s.a e.b (and_left _ _ (and_left _ _ (and_left _ _ h)))

uncrossed : (s e : Entry) → eqb s.a e.b ≡ false → crosses s e ≡ false
unfolding crosses
uncrossed s e h = rw h

crossed_awaits : (s e : Entry) → eqb s.a e.b ≡ true → s.flags ≤ 1 → e.flags ≤ 1 → awaits (written s) e ≡ crosses s e
unfolding crosses
crossed_awaits s e h f g = written_awaits s e f g ∙ rw h

module _ (e : Entry) where
  -- none, where nothing stands of the other party
  none_met : (ss : List Letter) → told ss e.b ≡ no_notice → (met e ss ≡ []) × (left e ss ≡ ss)
  unfolding told met left crosses
  none_met [] h = (refl, refl)
  none_met (s ∷ ss) h =
      let p = not_told s.entry e.b (told ss e.b) h in
      let r = none_met ss p.1 in
      (rw (p.0, r.0), rw (p.0, r.1))

  -- the letters behind the one that it answers tell nothing of that one's writer
  others_silent : (n : ℕ) (s : Letter) (ss : List Letter) → Orderly n (s ∷ ss) → crosses s.entry e ≡ true → told ss e.b ≡ no_notice
  unfolding Orderly
  others_silent n s ss o h = rw (← crossed_writer s.entry e h) o.2

  -- one at most
  pub one_met : (n : ℕ) (ss : List Letter) → Orderly n ss → length (met e ss) ≤ 1
  unfolding met Orderly
  one_met n [] o = omega arith
  one_met n (s ∷ ss) o =
      either (λ (ts : List Letter). length ts ≤ 1) (crosses s.entry e) (s ∷ met e ss) (met e ss)
      (λ z. rw (none_met ss (others_silent n s ss o z)).0 (omega arith))
      (λ z. one_met s.place ss o.3)

  -- the ledger, which sees the other party's notice alone, knows as well whether there is one
  pub answered : (n : ℕ) (ss : List Letter) → Orderly n ss → e.flags ≤ 1 → awaits (told ss e.b) e ≡ ltb 0 (length (met e ss))
  unfolding told met Orderly
  answered n [] o f = none_awaits e
  answered n (s ∷ ss) o f =
      either (λ (m : Notice). awaits m e ≡ ltb 0 (length (met e (s ∷ ss)))) (eqb s.entry.a e.b) (written s.entry) (told ss e.b)
      (λ z.
      crossed_awaits s.entry e z o.1 f
      ∙ either (λ (ts : List Letter). crosses s.entry e ≡ ltb 0 (length ts)) (crosses s.entry e) (s ∷ met e ss) (met e ss)
      (λ y. y ∙ sym (lt-ltb 0 (suc (length (met e ss))) (omega arith)))
      (λ y. y ∙ rw (none_met ss (rw (← eqb-true s.entry.a e.b z) o.2)).0))
      (λ z. rw (uncrossed s.entry e z) (answered s.place ss o.3 f))

  -- of its writer nothing stands from then on, and the other letters stay
  none_left : (ss : List Letter) (i : ℕ) → told ss i ≡ no_notice → told (left e ss) i ≡ no_notice
  unfolding told left
  none_left [] i h = refl
  none_left (s ∷ ss) i h =
      let p = not_told s.entry i (told ss i) h in
      let r = none_left ss i p.1 in
      either (λ (ts : List Letter). told ts i ≡ no_notice) (not (crosses s.entry e)) (s ∷ left e ss) (left e ss) (λ z. rw p.0 r) (λ z. r)

  pub orderly_left : (n : ℕ) (ss : List Letter) → Orderly n ss → Orderly n (left e ss)
  unfolding left Orderly
  orderly_left n [] o = tt
  orderly_left n (s ∷ ss) o =
      let r = orderly_left s.place ss o.3 in
      either (Orderly n) (not (crosses s.entry e)) (s ∷ left e ss) (left e ss) (λ z. (o.0, o.1, none_left ss s.entry.a o.2, r)) (λ z. later s.place n (left e ss) r (omega (arith, o.0)))

  pub told_left : (n : ℕ) (ss : List Letter) (i : ℕ) → Orderly n ss → ltb 0 (length (met e ss)) ≡ true → told (left e ss) i ≡ cond (eqb e.b i) no_notice (told ss i)
  unfolding told met left Orderly
  told_left n [] i o = λ h. absurd (false≢true h)
  told_left n (s ∷ ss) i o = go (crosses s.entry e) refl (told_left s.place ss i o.3)
    where
      gone : (t u : Bool) → eqb e.b i ≡ t → eqb s.entry.a i ≡ u → s.entry.a ≡ e.b → told ss e.b ≡ no_notice → told ss i ≡ cond t no_notice (cond u (written s.entry) (told ss i))
      gone true u z y x q = rw (← eqb-true e.b i z) q
      gone false true z y x q = absurd (eqb-false e.b i z (sym x ∙ eqb-true s.entry.a i y))
      gone false false z y x q = refl

      stays : (t u : Bool) → eqb e.b i ≡ t → eqb s.entry.a i ≡ u → ltb 0 (length (met e ss)) ≡ true → told (left e ss) i ≡ cond t no_notice (told ss i)
          → cond u (written s.entry) (told (left e ss) i) ≡ cond t no_notice (cond u (written s.entry) (told ss i))
      stays true true z y h r =
          let alone = none_met ss (rw (← (eqb-true s.entry.a i y ∙ sym (eqb-true e.b i z))) o.2) in
          absurd (false≢true (ap (λ (ts : List Letter). ltb 0 (length ts)) (sym alone.0) ∙ h))
      stays true false z y h r = r
      stays false true z y h r = refl
      stays false false z y h r = r

      go : (c : Bool) → crosses s.entry e ≡ c → (ltb 0 (length (met e ss)) ≡ true → told (left e ss) i ≡ cond (eqb e.b i) no_notice (told ss i))
          → ltb 0 (length (cond c (s ∷ met e ss) (met e ss))) ≡ true
          → told (cond (not c) (s ∷ left e ss) (left e ss)) i ≡ cond (eqb e.b i) no_notice (cond (eqb s.entry.a i) (written s.entry) (told ss i))
      go true z r h =
          let rest = others_silent n s ss o z in
          rw (none_met ss rest).1 (gone (eqb e.b i) (eqb s.entry.a i) refl refl (crossed_writer s.entry e z) rest)
      go false z r h = stays (eqb e.b i) (eqb s.entry.a i) refl refl h (r h)
