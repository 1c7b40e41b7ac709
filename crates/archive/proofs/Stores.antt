-- Each turn of the writer takes the first of the sections that are left: its pair is put behind the pairs before it, its bytes behind the bytes before them.
use native.Mathlib.Omega.{arith}
use Prim.Native.Nat.{ℕ, ◌+◌, ◌*◌, ◌-◌, ◌<◌, ◌≤◌}
use mathlib.Core.Path.{◌≡◌, refl, sym, ap, ◌∙◌}
use mathlib.Core.List.{List, [], ◌∷◌, ◌++◌}
use lib.Seq.{paste, paste-zero, length-paste, take-append-le, take_all, drop_at, drop-drop}
use lib.ListN.{length, take, drop, length-append}
use Rattle.std.specs.List.{flat_map}
use Rattle.archive.specs.Words.{bytes_of}
use Rattle.archive.specs.Layout.{sections_of, concatenated, directory, body_at}
use Rattle.archive.proofs.Numbers.{length_bytes}
use Rattle.archive.proofs.Directories.{length_directory, pair_more}
use Rattle.archive.proofs.Parts.{lent_back, paste_more}
use Rattle.archive.proofs.Partitions.{together_sections}

-- a section's bytes, as std puts arrays one after the other
pub flattened : (es : List (List ℕ)) → flat_map (λ x. x) es ≡ concatenated es
unfolding concatenated
flattened [] = refl
flattened (e ∷ es) = ap (λ r. e ++ r) (flattened es)

-- ---- the directory

pub record PairsSoFar (d : List ℕ) (es : List (List ℕ)) (x : List ℕ) (ss : List (List ℕ)) (count at offset : ℕ) : Type 0 where
  pub done : ℕ
  pub place : at ≡ 8 + done
  pub long : length x ≡ length d
  pub copied : x ≡ paste d 8 (directory (body_at count) (sections_of es)) done
  pub left : drop done (directory (body_at count) (sections_of es)) ≡ directory offset ss
  pub counted : done + 8 * length ss ≡ 8 * count
  pub ends : offset + length (concatenated ss) ≡ 8 + 8 * count + length (concatenated es)

pub no_pairs : (d : List ℕ) (es : List (List ℕ)) (count : ℕ) → count ≡ length (sections_of es) → PairsSoFar d es d (sections_of es) count 8 (8 + 8 * count)
unfolding body_at
no_pairs d es count e =
    record {
      done = 0;
      place = refl;
      long = refl;
      copied = paste-zero d 8 (directory (8 + 8 * count) (sections_of es));
      left = refl;
      counted = omega arith;
      ends = rw (together_sections es);
    }

module _ (d : List ℕ) (es : List (List ℕ)) (x : List ℕ) (ss : List (List ℕ)) (count at offset : ℕ) (r : PairsSoFar d es x ss count at offset) where
  pub all_pairs : ss ≡ [] → x ≡ paste d 8 (directory (body_at count) (sections_of es)) (8 * count)
  all_pairs h = let z = ap length h in let whole : r.done ≡ 8 * count = omega (arith, r) in rw (← whole) r.copied

  -- one pair more, where there is room for all: its first word is put, then its second
  module _ (e : count ≡ length (sections_of es)) (room : 8 + 8 * count ≤ length d) (short : 8 + 8 * count + length (concatenated es) ≤ 4294967295)
      (s : List ℕ) (ts : List (List ℕ)) (more : ss ≡ s ∷ ts) where
    one_less : length ss ≡ 1 + length ts
    one_less = ap length more ∙ omega arith

    bytes_less : length (concatenated ss) ≡ length s + length (concatenated ts)
    unfolding concatenated
    bytes_less = rw more (length-append s (concatenated ts))

    pub first_fits : (at + 4 ≤ length x) × (offset < 4294967296)
    first_fits = (omega (arith, r, one_less), omega (arith, r, bytes_less))

    module _ (y : List ℕ) (hy : y ≡ paste x at (bytes_of 4 offset) 4) (size : ℕ) (u : size ≡ length s) where
      same_length : length y ≡ length x
      same_length = ap length hy ∙ length-paste x at (bytes_of 4 offset) 4 (first_fits.0) (omega (arith, length_bytes 4 offset))

      pub second_fits : (at + 4 + 4 ≤ length y) × (size < 4294967296)
      second_fits = (omega (arith, r, one_less, same_length), omega (arith, r, bytes_less))

      pub pair_put : (z : List ℕ) → z ≡ paste y (at + 4) (bytes_of 4 size) 4 → PairsSoFar d es z ts count (at + 8) (offset + size)
      pair_put z hz =
          let whole = directory (body_at count) (sections_of es) in
          let size_whole = length_directory (body_at count) (sections_of es) in
          let k : at + 4 ≡ 12 + r.done = omega (arith, r) in
          let t = pair_more d whole x y z r.done offset size s ts r.copied (omega arith) (omega (arith, r, one_less, size_whole)) (sym u) (rw more at r.left) (rw r.place at hy) (rw k at hz) in
          record {
            done = r.done + 8;
            place = omega (arith, r);
            long = ap length t.0 ∙ length-paste d 8 whole (r.done + 8) (omega (arith, r, one_less)) (omega (arith, r, one_less, size_whole));
            copied = t.0;
            left = t.1;
            counted = omega (arith, r, one_less);
            ends = omega (arith, r, bytes_less);
          }

-- ---- the sections

pub record FilledSoFar (d : List ℕ) (es : List (List ℕ)) (x : List ℕ) (ss : List (List ℕ)) (body offset : ℕ) : Type 0 where
  pub done : ℕ
  pub place : offset ≡ body + done
  pub long : length x ≡ length d
  pub copied : x ≡ paste d body (concatenated es) done
  pub left : drop done (concatenated es) ≡ concatenated ss
  pub counted : done + length (concatenated ss) ≡ length (concatenated es)

pub none_filled : (d : List ℕ) (es : List (List ℕ)) (body : ℕ) → FilledSoFar d es d (sections_of es) body body
none_filled d es body =
    record {
      done = 0;
      place = omega arith;
      long = refl;
      copied = paste-zero d body (concatenated es);
      left = sym (together_sections es);
      counted = rw (together_sections es) (omega arith);
    }

module _ (d : List ℕ) (es : List (List ℕ)) (x : List ℕ) (ss : List (List ℕ)) (body offset : ℕ) (r : FilledSoFar d es x ss body offset) where
  pub all_filled : ss ≡ [] → x ≡ paste d body (concatenated es) (length (concatenated es))
  unfolding concatenated
  all_filled h = let z = ap (λ (l : List (List ℕ)). length (concatenated l)) h in let whole : r.done ≡ length (concatenated es) = omega (arith, r) in rw (← whole) r.copied

  module _ (room : body + length (concatenated es) ≤ length d) (s : List ℕ) (ts : List (List ℕ)) (more : ss ≡ s ∷ ts) where
    first_bytes : concatenated ss ≡ s ++ concatenated ts
    unfolding concatenated
    first_bytes = rw more

    bytes_left : length (concatenated ss) ≡ length s + length (concatenated ts)
    bytes_left = ap length first_bytes ∙ length-append s (concatenated ts)

    pub part_fits : offset + length s ≤ length x
    part_fits = omega (arith, r, bytes_left)

    taken : take (length s) (drop r.done (concatenated es)) ≡ s
    taken = rw (r.left, first_bytes) (take-append-le (length s) s (concatenated ts) (omega arith) ∙ take_all (length s) s (omega arith))

    pub section_put : (bytes ys z : List ℕ) → bytes ≡ s → ys ≡ bytes ++ drop (length bytes) (take (length x - offset) (drop offset x))
        → z ≡ take offset x ++ (ys ++ drop (length x - offset) (drop offset x)) → FilledSoFar d es z ts body (offset + length bytes)
    section_put bytes ys z u h w =
        let stored : z ≡ paste d body (concatenated es) (r.done + length s) =
        w ∙ lent_back x s ys offset (rw u at h)
        ∙ rw r.place (rw taken at (paste_more d (concatenated es) x body r.done (length s) (omega arith) (omega (arith, r)) r.copied)) in
        rw u
        (record {
          done = r.done + length s;
          place = omega (arith, r);
          long = ap length stored ∙ length-paste d body (concatenated es) (r.done + length s) (omega (arith, r, bytes_left)) (omega (arith, r, bytes_left));
          copied = stored;
          left = sym (drop-drop (length s) r.done (concatenated es)) ∙ rw (r.left, first_bytes) (drop_at s (concatenated ts) (length s) refl);
          counted = omega (arith, r, bytes_left);
        })
