-- The archive says of its sections how many they are and where each lies, so they are read as they were packed; a right archive leaves the packer no choice.
use native.Mathlib.Omega.{arith}
use Prim.Native.Nat.{ℕ, ◌+◌, ◌*◌, ◌≤◌}
use mathlib.Core.Path.{◌≡◌, refl, sym, ap, ◌∙◌}
use mathlib.Core.Bool.{Bool, true, false}
use mathlib.Core.List.{List, ◌++◌, append_assoc}
use lib.ListN.{length, take, drop, length-append, take-append-drop, length-map}
use lib.Seq.{drop_at, take-add}
use Rattle.archive.specs.Layout.{concatenated, header, directory, body_at, packed}
use Rattle.archive.specs.Reading.{section_count, is_new, wrong_header, pairs_from, pairs_of, right_directory, part_at, parts_of, list_of}
use Rattle.archive.specs.RoundTrips.{Bytes}
use Rattle.archive.proofs.Partitions.{Good}
use Rattle.archive.proofs.Headers.{length_header, count_put, opening_put, kind_put, zeros_put, Headed, headed_right, header_checked, header_again}
use Rattle.archive.proofs.Directories.{pairs_for, length_directory, pairs_put, directory_again}
use Rattle.archive.proofs.Pairs.{length_pairs}
use Rattle.archive.proofs.Stretches.{right_for, parts_for, Parted, parted}

-- ---- packed, then read

-- all before the sections
abbrev front : Bool → List (List ℕ) → List ℕ
front new ss = header new (length ss) ++ directory (body_at (length ss)) ss

length_front : (new : Bool) (ss : List (List ℕ)) → length (front new ss) ≡ body_at (length ss)
unfolding body_at
length_front new ss = length-append (header new (length ss)) (directory (8 + 8 * length ss) ss) ∙ rw (length_header, length_directory)

pub length_packed : (new : Bool) (ss : List (List ℕ)) → length (packed new ss) ≡ body_at (length ss) + length (concatenated ss)
unfolding packed
length_packed new ss = length-append (front new ss) (concatenated ss) ∙ rw (length_front new ss)

-- the header, then the rest
headed_packed : (new : Bool) (ss : List (List ℕ)) → packed new ss ≡ header new (length ss) ++ (directory (body_at (length ss)) ss ++ concatenated ss)
unfolding packed
headed_packed new ss = append_assoc (header new (length ss)) (directory (body_at (length ss)) ss) (concatenated ss)

pub kind_packed : (new : Bool) (ss : List (List ℕ)) → is_new (packed new ss) ≡ new
kind_packed new ss = ap is_new (headed_packed new ss) ∙ kind_put new (length ss) (directory (body_at (length ss)) ss ++ concatenated ss)

module _ (new : Bool) (ss : List (List ℕ)) (good : Good ss) (few : length ss ≤ 1200) (short : length (packed new ss) ≤ 4294967295) where
  abbrev rest : List ℕ
  rest = directory (body_at (length ss)) ss ++ concatenated ss

  pub count_packed : section_count (packed new ss) ≡ length ss
  count_packed = ap section_count (headed_packed new ss) ∙ count_put new (length ss) rest (omega arith)

  pub header_packed : wrong_header (packed new ss) ≡ false
  unfolding body_at
  header_packed =
      headed_right (packed new ss)
      (record {
        long = omega (arith, length_packed new ss);
        short = short;
        opens = rw (headed_packed new ss) (opening_put new (length ss) rest);
        six = rw (headed_packed new ss) (zeros_put new (length ss) rest).0;
        seven = rw (headed_packed new ss) (zeros_put new (length ss) rest).1;
        few = rw count_packed few;
        room = rw count_packed (omega (arith, length_packed new ss));
      })

  pairs_packed : pairs_of (packed new ss) ≡ pairs_for (body_at (length ss)) ss
  unfolding pairs_of
  pairs_packed =
      rw count_packed
      (pairs_put ss (packed new ss) (header new (length ss)) (concatenated ss) (body_at (length ss)) 0 (headed_packed new ss) (length_header new (length ss)) (omega (arith, length_packed new ss)))

  pub directory_packed : right_directory (packed new ss) ≡ true
  unfolding right_directory
  directory_packed = rw (count_packed, pairs_packed) (right_for ss (body_at (length ss)) (length (packed new ss)) good (sym (length_packed new ss)))

  pub parts_packed : parts_of (packed new ss) ≡ ss
  unfolding parts_of packed
  parts_packed = rw pairs_packed (parts_for ss (packed new ss) (front new ss) (body_at (length ss)) refl (length_front new ss))

  pub list_packed : list_of (packed new ss) ≡ concatenated ss
  unfolding list_of packed
  list_packed = rw count_packed (drop_at (front new ss) (concatenated ss) (body_at (length ss)) (length_front new ss))

-- ---- read, then packed

module _ (a : List ℕ) (right : right_directory a ≡ true) where
  pub count_parts : length (parts_of a) ≡ section_count a
  unfolding parts_of pairs_of
  count_parts = length-map (pairs_from a 0 (section_count a)) (part_at a) ∙ length_pairs a 0 (section_count a)

  in_parts : Parted a (body_at (section_count a)) (pairs_of a)
  unfolding right_directory
  in_parts = parted a (pairs_of a) (body_at (section_count a)) right

  pub parts_good : Good (parts_of a)
  unfolding parts_of
  parts_good = in_parts.good

  pub list_parts : concatenated (parts_of a) ≡ list_of a
  unfolding parts_of list_of
  list_parts = in_parts.all

  pairs_again : pairs_from a 0 (length (parts_of a)) ≡ pairs_for (body_at (section_count a)) (parts_of a)
  unfolding parts_of pairs_of
  pairs_again = rw count_parts in_parts.named

  pub packed_again : Bytes a → wrong_header a ≡ false → packed (is_new a) (parts_of a) ≡ a
  unfolding packed list_of body_at
  packed_again b w =
      let h : Headed a = header_checked a w in
      let n : ℕ = section_count a in
      let room : 8 + 8 * 0 + 8 * length (parts_of a) ≤ length a = rw count_parts h.room in
      let dir : directory (8 + 8 * n) (parts_of a) ≡ take (8 * n) (drop 8 a) = rw count_parts at (directory_again a (8 + 8 * n) 0 (parts_of a) b room pairs_again) in
      rw (count_parts, header_again a b h, dir, list_parts, ← take-add 8 (8 * n) a) (take-append-drop (8 + 8 * n) a)
