-- Every entry has 32 bytes, so to pass k entries of a list is to pass 32 k of its bytes, and whole entries put concatenated are entries again.
use native.Mathlib.Omega.{arith}
use native.Mathlib.Nat.{zero-add}
use Prim.Native.Nat.{ℕ, zero, suc, ◌+◌, ◌*◌, ◌/◌, ◌%◌, ◌<◌, ◌≤◌}
use mathlib.Core.Path.{◌≡◌, refl, sym, ap, ◌∙◌}
use mathlib.Core.List.{List, [], ◌∷◌, ◌++◌}
use lib.ListN.{length, get_or, take, drop, length-take, length-drop, length-append}
use lib.Seq.{take-append-le, drop-append-le, take-add, take_all}
use Rattle.archive.specs.Entries.{first_entries, entries_of}
use Rattle.std.specs.Simd.{first_chunks}
use Rattle.archive.specs.Layout.{concatenated}

pub length_entries : (n : ℕ) (s : List ℕ) → length (first_entries n s) ≡ n
unfolding first_entries
length_entries zero s = refl
length_entries (suc n) s = ap suc (length_entries n (drop 32 s))

-- each entry is whole
pub entry_whole : (n k : ℕ) (s : List ℕ) → k < n → 32 * n ≤ length s → length (get_or (first_entries n s) k []) ≡ 32
unfolding first_entries
entry_whole zero k s h w = absurd (omega arith)
entry_whole (suc n) zero s h w = simp length-take (omega arith)
entry_whole (suc n) (suc k) s h w = entry_whole n k (drop 32 s) (omega arith) (simp length-drop (omega arith))

-- the bytes of the first n entries
pub together_entries : (n : ℕ) (s : List ℕ) → concatenated (first_entries n s) ≡ take (32 * n) s
unfolding first_entries concatenated
together_entries zero s = refl
together_entries (suc n) s =
    let j : 32 * suc n ≡ 32 + 32 * n = omega arith in
    rw (j, together_entries n (drop 32 s)) (sym (take-add 32 (32 * n) s))

pub together_all : (s : List ℕ) → length s % 32 ≡ 0 → concatenated (entries_of s) ≡ s
unfolding entries_of
together_all s h = together_entries (length s / 32) s ∙ take_all (32 * (length s / 32)) s (omega arith)

entries_append : (n m : ℕ) (s t : List ℕ) → length s ≡ 32 * n → first_entries (n + m) (s ++ t) ≡ first_entries n s ++ first_entries m t
unfolding first_entries
entries_append zero m [] t h = rw (zero-add m)
entries_append zero m (x ∷ s) t h = absurd (omega arith)
entries_append (suc n) m s t h =
    let j : suc n + m ≡ suc (n + m) = omega arith in
    rw (j, take-append-le 32 s t (omega arith), drop-append-le 32 s t (omega arith))
    (ap (λ r. take 32 s ∷ r) (entries_append n m (drop 32 s) t (simp length-drop (omega arith))))

pub entries_of_append : (s t : List ℕ) → length s % 32 ≡ 0 → entries_of (s ++ t) ≡ entries_of s ++ entries_of t
unfolding entries_of
entries_of_append s t h =
    let n : length (s ++ t) / 32 ≡ length s / 32 + length t / 32 = rw length-append (omega arith) in
    rw n (entries_append (length s / 32) (length t / 32) s t (omega arith))

-- the entries as std cuts bytes into arrays of 32
pub chunks_entries : (n : ℕ) (s : List ℕ) → first_chunks 32 n s ≡ first_entries n s
unfolding first_entries
chunks_entries zero s = refl
chunks_entries (suc n) s = ap (λ r. take 32 s ∷ r) (chunks_entries n (drop 32 s))
