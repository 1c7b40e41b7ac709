-- A loop moves one account at a time from those to come to those behind it, so each law has a next and an end.
use Prim.Native.Nat.{ℕ, zero, suc, ◌+◌, ◌≤◌, ◌<◌}
use mathlib.Core.Path.{◌≡◌, refl, sym, ap, ◌∙◌}
use mathlib.Core.Bool.{Bool, true, ◌&&◌, and_assoc, and-true}
use mathlib.Core.List.{List, [], ◌∷◌, ◌++◌, map, append-nil}
use native.Mathlib.Numerals.{add-one}
use native.Mathlib.Omega.{arith}
use lib.ListN.{length, drop, take, get_or, set, drop_of_length-le}
use lib.Seq.{drop-cons, take_all}
-- that a lent ledger has sixteen accounts stands in the context of a function, under names that are Rattle's own, and not in the ledger: so each proof searches for it with this
pub use Rattle.tariff.proofs.Arrays.{length_mapped}
use Rattle.std.specs.List.{list_all}
use Rattle.std.proofs.lemmas.List.Recursion.{and_at, and_set, same_from_clauses}
use Rattle.ledger.specs.Ranges.{every_account}
use Rattle.ledger.specs.Structs.{Account, Ledger}

-- ---- a test of every account

module _ (p : Account → Bool) where
  pub every_next : (xs : List Account) (i : ℕ) (d : Account) (ok : Bool) → i < length xs → ok && every_account p (drop i xs) ≡ (ok && p (get_or xs i d)) && every_account p (drop (i + 1) xs)
  unfolding every_account
  every_next xs i d ok h = rw (add-one, drop-cons xs i d) (sym (and_assoc ok (p (get_or xs i d)) (every_account p (drop (suc i) xs))))

  -- an account that passes changes nothing
  pub every_pass : (xs : List Account) (i : ℕ) (d : Account) (ok : Bool) → i < length xs → p (get_or xs i d) ≡ true → ok && every_account p (drop i xs) ≡ ok && every_account p (drop (i + 1) xs)
  every_pass xs i d ok h t = every_next xs i d ok h ∙ rw (t, and-true)

  pub every_end : (xs : List Account) (i : ℕ) (ok : Bool) → length xs ≤ i → ok && every_account p (drop i xs) ≡ ok
  unfolding every_account
  every_end xs i ok h = rw (drop_of_length-le xs h) (and-true ok)

  pub every_at : (xs : List Account) (i : ℕ) (d : Account) → i < length xs → every_account p xs ≡ true → p (get_or xs i d) ≡ true
  unfolding every_account
  every_at = and_at (every_account p) p refl (λ _ _. refl)

  pub every_set : (xs : List Account) (i : ℕ) (v : Account) → p v ≡ true → every_account p xs ≡ true → every_account p (set xs i v) ≡ true
  unfolding every_account
  every_set = and_set (every_account p) p refl (λ _ _. refl)

  -- the same test as std's
  pub every_is_all : (xs : List Account) → every_account p xs ≡ list_all p xs
  unfolding every_account
  every_is_all = same_from_clauses (every_account p) (list_all p) (λ x b. p x && b) refl (λ _ _. refl) (λ _ _. refl)

-- the ledger with other accounts, and nothing else changed
abbrev pub with_accounts : Ledger → List Account → Ledger
with_accounts l xs = record { begun = l.begun; touched = l.touched; is_new = l.is_new; date = l.date; terms = l.terms; holidays = l.holidays; accounts = xs }

-- ---- an array that is filled from the front: f of the elements of xs passed, then what ys had

module _ {A B : Type 0} (f : A → B) where
  abbrev pub filled : List A → List B → ℕ → List B
  filled xs ys i = map f (take i xs) ++ drop i ys

  filled_suc : (xs : List A) (ys : List B) (i : ℕ) (d : A) → length ys ≡ length xs → i < length xs → set (filled xs ys i) i (f (get_or xs i d)) ≡ filled xs ys (suc i)
  filled_suc [] ys i d e h = absurd (omega arith)
  filled_suc (x ∷ xs) [] i d e h = absurd (omega arith)
  filled_suc (x ∷ xs) (y ∷ ys) zero d e h = refl
  filled_suc (x ∷ xs) (y ∷ ys) (suc i) d e h = ap (λ t. f x ∷ t) (filled_suc xs ys i d (omega arith) (omega arith))

  pub filled_next : (xs : List A) (ys : List B) (i : ℕ) (d : A) → length ys ≡ length xs → i < length xs → set (filled xs ys i) i (f (get_or xs i d)) ≡ filled xs ys (i + 1)
  filled_next xs ys i d e h = rw add-one (filled_suc xs ys i d e h)

  kept_suc : (xs : List A) (ys : List B) (i : ℕ) (d : A) (e : B) → length ys ≡ length xs → i < length xs → f (get_or xs i d) ≡ get_or ys i e → filled xs ys i ≡ filled xs ys (suc i)
  kept_suc [] ys i d e n h q = absurd (omega arith)
  kept_suc (x ∷ xs) [] i d e n h q = absurd (omega arith)
  kept_suc (x ∷ xs) (y ∷ ys) zero d e n h q = ap (λ (z : B). z ∷ ys) (sym q)
  kept_suc (x ∷ xs) (y ∷ ys) (suc i) d e n h q = ap (λ t. f x ∷ t) (kept_suc xs ys i d e (omega arith) (omega arith) q)

  -- an element that is there already
  pub filled_kept : (xs : List A) (ys : List B) (i : ℕ) (d : A) (e : B) → length ys ≡ length xs → i < length xs → f (get_or xs i d) ≡ get_or ys i e → filled xs ys i ≡ filled xs ys (i + 1)
  filled_kept xs ys i d e n h q = rw add-one (kept_suc xs ys i d e n h q)

  pub filled_end : (xs : List A) (ys : List B) (i : ℕ) → length xs ≤ i → length ys ≤ i → filled xs ys i ≡ map f xs
  filled_end xs ys i h k = rw (take_all i xs h, drop_of_length-le ys k) (append-nil (map f xs))

-- an element that a loop has not reached is as it came
pub ahead : {A : Type 0} (f : A → A) (xs : List A) (i : ℕ) (d : A) → i < length xs → get_or (filled f xs xs i) i d ≡ get_or xs i d
ahead f [] i d h = absurd (omega arith)
ahead f (x ∷ xs) zero d h = refl
ahead f (x ∷ xs) (suc i) d h = ahead f xs i d (omega arith)

-- a loop that writes f of each element in its place
pub written : {A : Type 0} (f : A → A) (xs ys : List A) (i : ℕ) (d : A) → i < length xs → ys ≡ filled f xs xs i → set ys i (f (get_or ys i d)) ≡ filled f xs xs (i + 1)
written f xs ys i d h p = rw (p, ahead f xs i d h) (filled_next f xs xs i d refl h)
