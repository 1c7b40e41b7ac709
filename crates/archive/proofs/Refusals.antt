-- A list of numbers has no refusal where all of them are 0, and only there: the first that is not 0 would be it.
use borrow.Author.Tests.{eqb-true, eqb-false, ne_eqb}
use native.Mathlib.Omega.{arith}
use Prim.Native.Nat.{ℕ, zero, suc, ◌+◌, ◌<◌}
use mathlib.Core.Path.{◌≡◌, refl, sym, ◌∙◌}
use mathlib.Core.Bool.{Bool, true, false, cond}
use mathlib.Core.List.{List, [], ◌∷◌, ◌++◌}
use lib.Dec.{eqb}
use lib.ListN.{get_or}
use Rattle.archive.specs.Entries.{finding, first_refusal}
use Rattle.archive.specs.Structs.{Checked}

-- each of them is 0
abbrev pub Zeros : List ℕ → Type 0
Zeros [] = Unit {0}
Zeros (n ∷ ns) = (n ≡ 0) × Zeros ns

pub zeros_append : (ns ms : List ℕ) → Zeros ns → Zeros ms → Zeros (ns ++ ms)
zeros_append [] ms h k = k
zeros_append (n ∷ ns) ms h k = (h.0, zeros_append ns ms h.1 k)

pub zeros_left : (ns ms : List ℕ) → Zeros (ns ++ ms) → Zeros ns
zeros_left [] ms h = tt
zeros_left (n ∷ ns) ms h = (h.0, zeros_left ns ms h.1)

pub zeros_right : (ns ms : List ℕ) → Zeros (ns ++ ms) → Zeros ms
zeros_right [] ms h = h
zeros_right (n ∷ ns) ms h = zeros_right ns ms h.1

pub none_refused : (i : ℕ) (ns : List ℕ) → Zeros ns → first_refusal i ns ≡ finding 0 0
unfolding first_refusal
none_refused i [] h = refl
none_refused i (n ∷ ns) h = rw h.0 (none_refused (i + 1) ns h.1)

-- of the first number and the rest
first_zero : (n i : ℕ) (rest : Checked) (b : Bool) → eqb n 0 ≡ b → (cond b rest (finding n i)).number ≡ 0 → (n ≡ 0) × (rest.number ≡ 0)
unfolding finding
first_zero n i rest true e h = (eqb-true n 0 e, h)
first_zero n i rest false e h = absurd (eqb-false n 0 e h)

-- the first that is not 0, with its index
pub first_found : (i k : ℕ) (ns : List ℕ) (n : ℕ) → ((j : ℕ) → j < k → get_or ns j 0 ≡ 0) → get_or ns k 0 ≡ n → (n ≡ 0 → ⊥) → first_refusal i ns ≡ finding n (i + k)
unfolding first_refusal
first_found i k [] n h e d = absurd (d (sym e))
first_found i zero (m ∷ ns) n h e d = let z : i + 0 ≡ i = omega arith in rw (ne_eqb m 0 (λ y. d (sym e ∙ y)), e, z)
first_found i (suc k) (m ∷ ns) n h e d =
    let j : i + suc k ≡ i + 1 + k = omega arith in rw (h 0 (omega arith), j) (first_found (i + 1) k ns n (λ j q. h (suc j) (omega arith)) e d)

pub zero_at : (ns : List ℕ) (k : ℕ) → Zeros ns → get_or ns k 0 ≡ 0
zero_at [] k h = refl
zero_at (n ∷ ns) zero h = h.0
zero_at (n ∷ ns) (suc k) h = zero_at ns k h.1

pub all_zero : (i : ℕ) (ns : List ℕ) → (first_refusal i ns).number ≡ 0 → Zeros ns
unfolding first_refusal
all_zero i [] h = tt
all_zero i (n ∷ ns) h =
    let k : (n ≡ 0) × ((first_refusal (i + 1) ns).number ≡ 0) = first_zero n i (first_refusal (i + 1) ns) (eqb n 0) refl h in
    (k.0, all_zero (i + 1) ns k.1)
