-- The first section runs to the first closing, or to the end; what follows is cut as a list of its own.
use native.Mathlib.Omega.{arith}
use Prim.Native.Nat.{ℕ, zero, suc, ◌+◌, ◌-◌, ◌<◌, ◌≤◌, min}
use mathlib.Core.Path.{◌≡◌, refl, ap, ◌∙◌}
use mathlib.Core.Bool.{Bool, true, false, cond}
use mathlib.Core.List.{List, [], ◌∷◌, ◌++◌, append-nil}
use lib.ListN.{length, take, drop, length-drop}
use lib.Seq.{take_all, take-append-le}
use Rattle.std.specs.List.{IsFirstMatchOrLen}
use Rattle.archive.specs.Entries.{first_entries, entries_of, closes_month}
use Rattle.archive.specs.Layout.{joined, sections_of, concatenated}

-- how many entries the first section has
unfoldable pub lead : List (List ℕ) → ℕ
lead [] = 0
lead (e ∷ es) = cond (closes_month e) 1 (1 + lead es)

-- the first section, and the rest
abbrev Parted : List (List ℕ) → Type 0
Parted es = sections_of es ≡ concatenated (take (lead es) es) ∷ sections_of (drop (lead es) es)

alone : (e : List ℕ) (b : Bool) → cond b (e ∷ []) (e ∷ []) ≡ concatenated (take (cond b 1 1) (e ∷ [])) ∷ sections_of (drop (cond b 1 1) (e ∷ []))
unfolding sections_of concatenated
alone e true = rw (append-nil e)
alone e false = rw (append-nil e)

before : (e f : List ℕ) (fs : List (List ℕ)) (b : Bool) → Parted (f ∷ fs)
    → cond b (e ∷ sections_of (f ∷ fs)) (joined e (sections_of (f ∷ fs)))
    ≡ concatenated (take (cond b 1 (1 + lead (f ∷ fs))) (e ∷ f ∷ fs)) ∷ sections_of (drop (cond b 1 (1 + lead (f ∷ fs))) (e ∷ f ∷ fs))
unfolding concatenated joined
before e f fs true h = rw (append-nil e)
before e f fs false h = let j : 1 + lead (f ∷ fs) ≡ suc (lead (f ∷ fs)) = omega arith in rw (j, h)

first_then_rest : (e : List ℕ) (es : List (List ℕ)) → Parted (e ∷ es)
unfolding sections_of joined concatenated lead
first_then_rest e [] = alone e (closes_month e)
first_then_rest e (f ∷ fs) = before e f fs (closes_month e) (first_then_rest f fs)

-- the part of a list from a place to its end
pub rest_whole : {A : Type 0} (s : List A) (at : ℕ) → take (length s - at) (drop at s) ≡ drop at s
rest_whole s at = take_all (length s - at) (drop at s) (rw length-drop (omega arith))

-- where the first closing stands, counted from 0, is one less than the first section's entries
lead_first : (es : List (List ℕ)) (i : ℕ) → IsFirstMatchOrLen closes_month es i → min (i + 1) (length es) ≡ lead es
unfolding lead
lead_first [] i h = omega arith
lead_first (e ∷ es) zero h = let closes : closes_month e ≡ true = h.1 (omega arith) e in rw closes (omega arith)
lead_first (e ∷ es) (suc i) h =
    let open_still : closes_month e ≡ false = h.0 0 e (omega arith) (omega arith) in
    let rest = lead_first es i (λ k d l m. h.0 (suc k) d (omega arith) (omega arith), λ l d. h.1 (omega arith) d) in
    rw open_still (omega arith)

taken : (es x rest : List (List ℕ)) (i : ℕ) → es ≡ x ++ rest → length x ≡ min (i + 1) (length es) → IsFirstMatchOrLen closes_month es i → 0 < length es
    → sections_of es ≡ concatenated x ∷ sections_of (take (length es - length x) (drop (length x) es))
taken [] x rest i e l f h = absurd (omega arith)
taken (b ∷ bs) x rest i e l f h =
    let size : length x ≡ lead (b ∷ bs) = l ∙ lead_first (b ∷ bs) i f in
    let part : take (lead (b ∷ bs)) (b ∷ bs) ≡ x = rw (← size, e) (take-append-le (length x) x rest (omega arith) ∙ take_all (length x) x (omega arith)) in
    rw (rest_whole (b ∷ bs) (length x), size) (first_then_rest b bs ∙ rw part)

pub section_taken : (es t x rest : List (List ℕ)) (i : ℕ) → t ≡ es → t ≡ x ++ rest → length x ≡ min (i + 1) (length t) → IsFirstMatchOrLen closes_month t i → 0 < length t
    → sections_of es ≡ concatenated x ∷ sections_of (take (length es - length x) (drop (length x) es))
section_taken es t x rest i q e l f h = rw (← q) (taken t x rest i e l f h)

pub none_cut : (es t : List (List ℕ)) → t ≡ es → length t ≡ 0 → sections_of es ≡ []
unfolding sections_of
none_cut [] t q h = refl
none_cut (e ∷ es) t q h = absurd (omega (arith, ap length q))

pub no_sections : (s : List ℕ) → length s ≡ 0 → sections_of (entries_of s) ≡ []
unfolding entries_of first_entries sections_of
no_sections [] h = refl
no_sections (x ∷ s) h = absurd (omega arith)

-- no more sections than entries
few_case : (b : Bool) (e : List ℕ) (ss : List (List ℕ)) (n : ℕ) → length ss ≤ n → length (cond b (e ∷ ss) (joined e ss)) ≤ suc n
unfolding joined
few_case true e ss n h = omega arith
few_case false e [] n h = omega arith
few_case false e (s ∷ ss) n h = omega arith

pub few_sections : (es : List (List ℕ)) → length (sections_of es) ≤ length es
unfolding sections_of
few_sections [] = omega arith
few_sections (e ∷ es) = few_case (closes_month e) e (sections_of es) (length es) (few_sections es)
