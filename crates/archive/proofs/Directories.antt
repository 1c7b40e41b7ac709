-- A pair is two words of four bytes, so the directory is cut every eight bytes; a word comes back from its bytes, and the bytes from the word.
use native.Mathlib.Omega.{arith}
use Prim.Native.Nat.{ℕ, zero, suc, ◌+◌, ◌*◌, ◌<◌, ◌≤◌}
use mathlib.Core.Path.{◌≡◌, refl, sym, ap, ◌∙◌}
use mathlib.Core.List.{List, [], ◌∷◌, ◌++◌, append_assoc}
use lib.ListN.{length, take, drop, length-drop, length-append}
use lib.Seq.{length-take-le, get_or-drop, drop-drop, take-add, paste}
use Rattle.ledger.specs.Entries.{word_at}
use Rattle.archive.specs.Words.{bytes_of}
use Rattle.archive.specs.Layout.{concatenated, directory}
use Rattle.archive.specs.Reading.{Pair, pair_at, pairs_from}
use Rattle.archive.specs.RoundTrips.{Bytes}
use Rattle.archive.proofs.Parts.{paste_more}
use Rattle.archive.proofs.Numbers.{word_value, bytes_of_value, length_bytes, word_put}

-- the pairs of sections, the first beginning at an offset
unfoldable pub pairs_for : ℕ → List (List ℕ) → List Pair
pairs_for off [] = []
pairs_for off (s ∷ ss) = (off, length s) ∷ pairs_for (off + length s) ss

pub length_directory : (off : ℕ) (ss : List (List ℕ)) → length (directory off ss) ≡ 8 * length ss
unfolding directory
length_directory off [] = refl
length_directory off (s ∷ ss) = simp (length-append, length_bytes) (omega (arith, length_directory (off + length s) ss))

-- ---- written, then read

pub pairs_put : (ss : List (List ℕ)) (a before after : List ℕ) (off i : ℕ) → a ≡ before ++ (directory off ss ++ after) → length before ≡ 8 + 8 * i
    → off + length (concatenated ss) < 4294967296 → pairs_from a i (length ss) ≡ pairs_for off ss
unfolding directory pairs_from pair_at pairs_for concatenated
pairs_put [] a before after off i e h k = refl
pairs_put (s ∷ ss) a before after off i e h k =
    let w : List ℕ = bytes_of 4 off in
    let v : List ℕ = bytes_of 4 (length s) in
    let rest : List ℕ = directory (off + length s) ss ++ after in
    let size : length (s ++ concatenated ss) ≡ length s + length (concatenated ss) = length-append s (concatenated ss) in
    let one : a ≡ before ++ (w ++ (v ++ rest)) = e ∙ simp append_assoc in
    let two : a ≡ (before ++ w) ++ (v ++ rest) = one ∙ sym (append_assoc before w (v ++ rest)) in
    let three : a ≡ (before ++ w ++ v) ++ rest = two ∙ sym (append_assoc (before ++ w) v rest) in
    let start : word_at a (8 + 8 * i) ≡ off = rw one (word_put before (v ++ rest) (8 + 8 * i) off h (omega arith)) in
    let long : word_at a (12 + 8 * i) ≡ length s = rw two (word_put (before ++ w) rest (12 + 8 * i) (length s) (simp (length-append, length_bytes) (omega arith)) (omega arith)) in
    rw (start, long)
    (ap (λ r. (off, length s) ∷ r)
    (pairs_put ss a (before ++ w ++ v) after (off + length s) (i + 1) three (simp (length-append, length_bytes) (omega arith)) (omega arith)))

-- ---- read, then written

bytes_take : (n : ℕ) (a : List ℕ) → Bytes a → Bytes (take n a)
bytes_take zero a b i = omega arith
bytes_take (suc n) [] b i = omega arith
bytes_take (suc n) (x ∷ a) b zero = b 0
bytes_take (suc n) (x ∷ a) b (suc i) = bytes_take n a (λ j. b (suc j)) i

bytes_drop : (n : ℕ) (a : List ℕ) → Bytes a → Bytes (drop n a)
bytes_drop n a b i = rw (get_or-drop n a i 0) (b (n + i))

word_again : (a : List ℕ) (at : ℕ) → Bytes a → at + 4 ≤ length a → bytes_of 4 (word_at a at) ≡ take 4 (drop at a)
word_again a at b h =
    let size : length (take 4 (drop at a)) ≡ 4 = length-take-le 4 (drop at a) (rw length-drop (omega arith)) in
    ap (bytes_of 4) (word_value a at h) ∙ rw size at (bytes_of_value (take 4 (drop at a)) (bytes_take 4 (drop at a) (bytes_drop at a b)))

-- the bytes of pairs
unfoldable pair_bytes : List Pair → List ℕ
pair_bytes [] = []
pair_bytes (p ∷ ps) = bytes_of 4 p.0 ++ bytes_of 4 p.1 ++ pair_bytes ps

directory_bytes : (off : ℕ) (ss : List (List ℕ)) → directory off ss ≡ pair_bytes (pairs_for off ss)
unfolding directory pairs_for pair_bytes
directory_bytes off [] = refl
directory_bytes off (s ∷ ss) = rw (directory_bytes (off + length s) ss)

pairs_bytes : (n i : ℕ) (a : List ℕ) → Bytes a → 8 + 8 * i + 8 * n ≤ length a → pair_bytes (pairs_from a i n) ≡ take (8 * n) (drop (8 + 8 * i) a)
unfolding pair_bytes pairs_from pair_at
pairs_bytes zero i a b h = refl
pairs_bytes (suc n) i a b h =
    let at : ℕ = 8 + 8 * i in
    let next : 8 + 8 * (i + 1) ≡ at + 8 = omega arith in
    let second : 12 + 8 * i ≡ at + 4 = omega arith in
    let many : 8 * suc n ≡ 4 + 4 + 8 * n = omega arith in
    rw (second, pairs_bytes n (i + 1) a b (omega arith), next, word_again a at b (omega arith), word_again a (at + 4) b (omega arith), many, take-add (4 + 4) (8 * n) (drop at a), take-add 4 4 (drop at a), drop-drop 4 at a, drop-drop 8 at a)

-- where the pairs read are those of sections, the bytes read are their directory
pub directory_again : (a : List ℕ) (off i : ℕ) (ss : List (List ℕ)) → Bytes a → 8 + 8 * i + 8 * length ss ≤ length a → pairs_from a i (length ss) ≡ pairs_for off ss
    → directory off ss ≡ take (8 * length ss) (drop (8 + 8 * i) a)
directory_again a off i ss b h e = directory_bytes off ss ∙ ap pair_bytes (sym e) ∙ pairs_bytes (length ss) i a b h

-- ---- a pair more, as it is written

directory_next : (off : ℕ) (s : List ℕ) (ss : List (List ℕ)) → directory off (s ∷ ss) ≡ bytes_of 4 off ++ (bytes_of 4 (length s) ++ directory (off + length s) ss)
unfolding directory
directory_next off s ss = append_assoc (bytes_of 4 off) (bytes_of 4 (length s)) (directory (off + length s) ss)

-- a word is put where the copy has come to
module _ (d s x : List ℕ) (at j v : ℕ) (rest : List ℕ) (e : drop j s ≡ bytes_of 4 v ++ rest) where
  word_after : drop (j + 4) s ≡ rest
  unfolding bytes_of
  word_after = sym (drop-drop 4 j s) ∙ ap (drop 4) e

  word_more : x ≡ paste d at s j → at ≤ length d → j ≤ length s → paste x (at + j) (bytes_of 4 v) 4 ≡ paste d at s (j + 4)
  unfolding bytes_of
  word_more h hd hs =
      append_assoc (take (at + j) x) (bytes_of 4 v) (drop (at + j + 4) x)
      ∙ ap (λ (l : List ℕ). take (at + j) x ++ (l ++ drop (at + j + 4) x)) (sym (ap (take 4) e))
      ∙ paste_more d s x at j 4 hd hs h

-- a pair is put where the directory has come to
pub pair_more : (d s x y z : List ℕ) (done off size : ℕ) (t : List ℕ) (ts : List (List ℕ)) → x ≡ paste d 8 s done → 8 ≤ length d → done + 8 ≤ length s → length t ≡ size
    → drop done s ≡ directory off (t ∷ ts) → y ≡ paste x (8 + done) (bytes_of 4 off) 4 → z ≡ paste y (12 + done) (bytes_of 4 size) 4
    → (z ≡ paste d 8 s (done + 8)) × (drop (done + 8) s ≡ directory (off + size) ts)
pair_more d s x y z done off size t ts hx hd hs ht e hy hz =
    let j : 12 + done ≡ 8 + (done + 4) = omega arith in
    let k : done + 4 + 4 ≡ done + 8 = omega arith in
    let two = directory (off + size) ts in
    let one = bytes_of 4 size ++ two in
    let first : drop done s ≡ bytes_of 4 off ++ one = e ∙ directory_next off t ts ∙ ap (λ (n : ℕ). bytes_of 4 off ++ (bytes_of 4 n ++ directory (off + n) ts)) ht in
    let second : drop (done + 4) s ≡ bytes_of 4 size ++ two = word_after d s x 8 done off one first in
    let half = hy ∙ word_more d s x 8 done off one first hx hd (omega arith) in (
      hz ∙ ap (λ (n : ℕ). paste y n (bytes_of 4 size) 4) j ∙ word_more d s y 8 (done + 4) size two second half hd (omega arith) ∙ ap (paste d 8 s) k,
      ap (λ (n : ℕ). drop n s) (sym k) ∙ word_after d s y 8 (done + 4) size two second,
    )
