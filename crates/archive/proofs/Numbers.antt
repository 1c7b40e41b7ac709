-- A remainder by 256 is the low byte and the quotient holds the others, so a number comes back from its bytes at any width that it fits.
use native.Mathlib.Omega.{arith}
use Prim.Native.Nat.{ℕ, zero, suc, ◌+◌, ◌*◌, ◌/◌, ◌%◌, ◌<◌, ◌≤◌}
use mathlib.Core.Path.{◌≡◌, refl, sym, ap, ◌∙◌}
use mathlib.Core.List.{List, [], ◌∷◌, ◌++◌}
use lib.ListN.{length, get_or, take, drop, length-append}
use lib.Seq.{drop_at, drop-cons}
use Rattle.ledger.specs.Entries.{word_at}
use Rattle.std.specs.Int.{w32, to_le_bytes}
use Rattle.archive.specs.RoundTrips.{Bytes}
use Rattle.archive.specs.Words.{bytes_of}
use Rattle.ledger.proofs.Fields.{word_bytes}

-- n has room in so many bytes
abbrev Within : ℕ → ℕ → Type 0
Within zero n = n ≡ 0
Within (suc width) n = Within width (n / 256)

-- the number that some bytes hold, the low byte first
unfoldable pub value_of : List ℕ → ℕ
value_of [] = 0
value_of (b ∷ bs) = b + 256 * value_of bs

pub value_of_bytes : (width n : ℕ) → Within width n → value_of (bytes_of width n) ≡ n
unfolding value_of bytes_of
value_of_bytes zero n h = sym h
value_of_bytes (suc width) n h = rw (value_of_bytes width (n / 256) h) (omega arith)

pub bytes_of_value : (bs : List ℕ) → Bytes bs → bytes_of (length bs) (value_of bs) ≡ bs
unfolding value_of bytes_of
bytes_of_value [] h = refl
bytes_of_value (b ∷ bs) h =
    let small : b < 256 = h 0 in
    let low : (b + 256 * value_of bs) % 256 ≡ b = omega arith in
    let high : (b + 256 * value_of bs) / 256 ≡ value_of bs = omega arith in
    rw (low, high, bytes_of_value bs (λ i. h (suc i)))

pub length_bytes : (width n : ℕ) → length (bytes_of width n) ≡ width
unfolding bytes_of
length_bytes zero n = refl
length_bytes (suc width) n = ap suc (length_bytes width (n / 256))

-- the bytes that a word is read from
four : (s : List ℕ) (at : ℕ) → at + 4 ≤ length s → take 4 (drop at s) ≡ get_or s at 0 ∷ get_or s (suc at) 0 ∷ get_or s (suc (suc at)) 0 ∷ get_or s (suc (suc (suc at))) 0 ∷ []
four s at h =
    rw (drop-cons s at 0 (omega arith), drop-cons s (suc at) 0 (omega arith), drop-cons s (suc (suc at)) 0 (omega arith), drop-cons s (suc (suc (suc at))) 0 (omega arith))

pub word_value : (s : List ℕ) (at : ℕ) → at + 4 ≤ length s → word_at s at ≡ value_of (take 4 (drop at s))
unfolding value_of
word_value s at h =
    let one : at + 1 ≡ suc at = omega arith in
    let two : at + 2 ≡ suc (suc at) = omega arith in
    let three : at + 3 ≡ suc (suc (suc at)) = omega arith in
    word_bytes s at ∙ rw (four s at h, one, two, three) (omega arith)

-- a word that was put at a place, read there
pub word_put : (before after : List ℕ) (at n : ℕ) → length before ≡ at → n < 4294967296 → word_at (before ++ (bytes_of 4 n ++ after)) at ≡ n
unfolding bytes_of
word_put before after at n e h =
    word_value (before ++ (bytes_of 4 n ++ after)) at (simp (length-append) (omega (arith, e)))
    ∙ ap (λ (l : List ℕ). value_of (take 4 l)) (drop_at before (bytes_of 4 n ++ after) at e) ∙ value_of_bytes 4 n (omega arith)

-- the bytes that std takes a number apart into
pub le_bytes : (n : ℕ) → n < 4294967296 → to_le_bytes w32 n ≡ bytes_of 4 n
unfolding bytes_of
le_bytes n h =
    let one : n / 256 % 256 ≡ n / 256 % 256 = refl in
    let two : n / 65536 % 256 ≡ n / 256 / 256 % 256 = omega arith in
    let three : n / 16777216 % 256 ≡ n / 256 / 256 / 256 % 256 = omega arith in
    cc
