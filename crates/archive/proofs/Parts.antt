-- A copy that goes on where the last one ended is one longer copy, and a part that comes back filled changes nothing beside it.
use native.Mathlib.Omega.{arith}
use native.Mathlib.Nat.{add_assoc}
use Prim.Native.Nat.{ℕ, ◌+◌, ◌-◌, ◌≤◌}
use mathlib.Core.Path.{◌≡◌, sym, ap, ◌∙◌}
use mathlib.Core.List.{List, [], ◌++◌, append-nil, append_assoc}
use lib.ListN.{length, take, drop, length-drop}
use lib.Seq.{paste, take_all, drop-length, drop-drop, take-add, take-paste, drop-paste}

-- what is left past a part that runs to the end
past : (d : List ℕ) (off : ℕ) → drop (length d - off) (drop off d) ≡ []
past d off = ap (λ (k : ℕ). drop k (drop off d)) (sym (length-drop off d)) ∙ drop-length (drop off d)

-- a part from an offset to the end, filled from its start and back in its place
pub lent_back : (d p ys : List ℕ) (off : ℕ) → ys ≡ p ++ drop (length p) (take (length d - off) (drop off d))
    → take off d ++ (ys ++ drop (length d - off) (drop off d)) ≡ take off d ++ (p ++ drop (off + length p) d)
lent_back d p ys off e =
    ap (λ (l : List ℕ). take off d ++ l)
    (ap (λ (l : List ℕ). ys ++ l) (past d off) ∙ append-nil ys ∙ e
    ∙ ap (λ (l : List ℕ). p ++ drop (length p) l) (take_all (length d - off) (drop off d) (simp length-drop (omega arith)))
    ∙ ap (λ (l : List ℕ). p ++ l) (drop-drop (length p) off d))

-- n more elements after j: one longer copy
pub paste_more : (d s x : List ℕ) (at j n : ℕ) → at ≤ length d → j ≤ length s → x ≡ paste d at s j
    → take (at + j) x ++ (take n (drop j s) ++ drop (at + j + n) x) ≡ paste d at s (j + n)
paste_more d s x at j n hd hs e =
    ap (λ (l : List ℕ). take (at + j) l ++ (take n (drop j s) ++ drop (at + j + n) l)) e
    ∙ ap (λ (l : List ℕ). l ++ (take n (drop j s) ++ drop (at + j + n) (paste d at s j))) (take-paste d at s j hd hs)
    ∙ ap (λ (l : List ℕ). (take at d ++ take j s) ++ (take n (drop j s) ++ l))
    (sym (drop-drop n (at + j) (paste d at s j)) ∙ ap (drop n) (drop-paste d at s j hd hs) ∙ drop-drop n (at + j) d)
    ∙ sym (append_assoc (take at d ++ take j s) (take n (drop j s)) (drop (at + j + n) d))
    ∙ ap (λ (l : List ℕ). l ++ drop (at + j + n) d) (append_assoc (take at d) (take j s) (take n (drop j s)) ∙ ap (λ (l : List ℕ). take at d ++ l) (sym (take-add j n s)))
    ∙ ap (λ (k : ℕ). (take at d ++ take (j + n) s) ++ drop k d) (add_assoc at j n)
