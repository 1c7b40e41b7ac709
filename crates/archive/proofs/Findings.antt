-- The first refusal of two lists of numbers, one after the other, is the first list's where it has one, else the second's, counted on.
use borrow.Author.Tests.{eq-eqb, ne_eqb, eqb-true, eqb-false}
use native.Mathlib.Omega.{arith}
use Prim.Native.Nat.{ℕ, suc, ◌+◌, ◌-◌, ◌<◌}
use mathlib.Core.Path.{◌≡◌, refl}
use mathlib.Core.Bool.{Bool, true, false, cond}
use mathlib.Core.List.{List, [], ◌∷◌, ◌++◌}
use lib.Dec.{eqb}
use lib.ListN.{length}
use Rattle.archive.specs.Entries.{finding, first_refusal}

pass : (b : Bool) (i n : ℕ) (ns ms : List ℕ) → eqb n 0 ≡ b → ((first_refusal (i + 1) ns).number ≡ 0 → first_refusal (i + 1) (ns ++ ms) ≡ first_refusal (i + 1 + length ns) ms)
    → (cond b (first_refusal (i + 1) ns) (finding n i)).number ≡ 0 → cond b (first_refusal (i + 1) (ns ++ ms)) (finding n i) ≡ first_refusal (i + suc (length ns)) ms
unfolding finding
pass true i n ns ms e h z = let j : i + suc (length ns) ≡ i + 1 + length ns = omega arith in rw j (h z)
pass false i n ns ms e h z = absurd (eqb-false n 0 e z)

pub refusal_past : (i : ℕ) (ns ms : List ℕ) → (first_refusal i ns).number ≡ 0 → first_refusal i (ns ++ ms) ≡ first_refusal (i + length ns) ms
unfolding first_refusal
refusal_past i [] ms h = let j : i + 0 ≡ i = omega arith in rw j
refusal_past i (n ∷ ns) ms h = pass (eqb n 0) i n ns ms refl (refusal_past (i + 1) ns ms) h

stop : (b : Bool) (i n : ℕ) (ns ms : List ℕ) → (((first_refusal (i + 1) ns).number ≡ 0 → ⊥) → first_refusal (i + 1) (ns ++ ms) ≡ first_refusal (i + 1) ns)
    → ((cond b (first_refusal (i + 1) ns) (finding n i)).number ≡ 0 → ⊥) → cond b (first_refusal (i + 1) (ns ++ ms)) (finding n i) ≡ cond b (first_refusal (i + 1) ns) (finding n i)
stop true i n ns ms h z = h z
stop false i n ns ms h z = refl

pub refusal_within : (i : ℕ) (ns ms : List ℕ) → ((first_refusal i ns).number ≡ 0 → ⊥) → first_refusal i (ns ++ ms) ≡ first_refusal i ns
unfolding first_refusal finding
refusal_within i [] ms h = absurd (h refl)
refusal_within i (n ∷ ns) ms h = stop (eqb n 0) i n ns ms (refusal_within (i + 1) ns ms) h

-- ---- the last of some, as a loop asks it

last_case : (b : Bool) (n k : ℕ) → k < n → eqb (k + 1) n ≡ b → eqb (n - (k + 1)) 0 ≡ b
last_case true n k h e = let z = eqb-true (k + 1) n e in eq-eqb (n - (k + 1)) 0 (omega arith)
last_case false n k h e = ne_eqb (n - (k + 1)) 0 (λ z. eqb-false (k + 1) n e (omega arith))

pub last_one : (n k : ℕ) → k < n → eqb (n - (k + 1)) 0 ≡ eqb (k + 1) n
last_one n k h = last_case (eqb (k + 1) n) n k h refl
