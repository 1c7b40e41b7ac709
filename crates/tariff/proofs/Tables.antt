-- A rule that holds of every entry of a table, by one test that is computed.
use Prim.Native.Nat.{ℕ, zero, suc, ◌≤◌, ◌<◌}
use mathlib.Core.Path.{◌≡◌, refl}
use mathlib.Core.Bool.{Bool, true, false, ◌&&◌}
use mathlib.Core.List.{List, [], ◌∷◌}
use native.Mathlib.Omega.{arith}
use lib.Dec.{leb, eqb}
use lib.ListN.{get_or}
use borrow.Author.Tests.{leb-true, eqb-true, eqb-false}
use Rattle.tariff.proofs.Bools.{and_left, and_right}

abbrev pub each : (ℕ → Bool) → List ℕ → Bool
each p [] = true
each p (x ∷ xs) = p x && each p xs

-- no entry is above n, and past the end stands 0
pub entry_le : (n : ℕ) (xs : List ℕ) → each (λ x. leb x n) xs ≡ true → (i : ℕ) → get_or xs i 0 ≤ n
entry_le n [] h i = omega arith
entry_le n (x ∷ xs) h zero = leb-true x n (and_left (leb x n) (each (λ y. leb y n) xs) h)
entry_le n (x ∷ xs) h (suc i) = entry_le n xs (and_right (leb x n) (each (λ y. leb y n) xs) h) i

-- a test of every number below n
abbrev pub all_below : (ℕ → Bool) → ℕ → Bool
all_below p zero = true
all_below p (suc n) = p n && all_below p n

pub at_each : (p : ℕ → Bool) (n : ℕ) → all_below p n ≡ true → (i : ℕ) → i < n → p i ≡ true
at_each p zero h i l = absurd (omega arith)
at_each p (suc n) h i l = go (eqb i n) refl (at_each p n (and_right (p n) (all_below p n) h) i)
  where
    go : (t : Bool) → eqb i n ≡ t → (i < n → p i ≡ true) → p i ≡ true
    go true e k = rw (eqb-true i n e) (and_left (p n) (all_below p n) h)
    go false e k = k (omega (arith, eqb-false i n e))
