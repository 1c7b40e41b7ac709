-- A 0 is the answer of one row of the checks only, the one past all of them: so a 0 tells that every check passed, and where every check passes it is 0.
use borrow.Author.Tests.{eqb-true, eqb-false, ltb-false, eq-eqb, le-ltb}
use native.Mathlib.Omega.{arith}
use Prim.Native.Nat.{ℕ, ◌%◌, ◌≤◌}
use mathlib.Core.Path.{◌≡◌, refl}
use mathlib.Core.Bool.{Bool, true, false, cond}
use mathlib.Core.List.{List, map}
use lib.Dec.{eqb, ltb}
use lib.ListN.{length}
use Rattle.tariff.proofs.Bools.{or_left, or_right}
use Rattle.ledger.specs.Forms.{form_number}
use Rattle.archive.specs.Entries.{entries_of, finding, first_refusal}
use Rattle.archive.specs.Layout.{sections_of, archive_of}
use Rattle.archive.specs.Writing.{list_checked, too_large, unwritten, written}
use Rattle.archive.specs.Reading.{is_new, wrong_header, right_directory, numbers_of, parts_of, checked}
use Rattle.archive.proofs.Refusals.{Zeros, none_refused, all_zero}

-- ---- the writer

pub record Writable (new : Bool) (list : List ℕ) : Type 0 where
  pub whole : length list % 32 ≡ 0
  pub forms : Zeros (map (form_number new) (entries_of list))
  pub few : length (sections_of (entries_of list)) ≤ 1200
  pub short : length (archive_of new list) ≤ 4294967295

module _ (new : Bool) (list : List ℕ) where
  check_zero : (list_checked new list).number ≡ 0 → Zeros (map (form_number new) (entries_of list))
  unfolding list_checked
  check_zero h = all_zero 0 (map (form_number new) (entries_of list)) h

  zero_check : Zeros (map (form_number new) (entries_of list)) → list_checked new list ≡ finding 0 0
  unfolding list_checked
  zero_check h = none_refused 0 (map (form_number new) (entries_of list)) h

  answer_case : (whole right large tight : Bool) (size : ℕ) → eqb (list_checked new list).number 0 ≡ right
      → (cond whole (cond right (cond large (unwritten 11 0) (cond tight (unwritten 12 0) (record { number = 0; index = 0; length = size }))) (unwritten (list_checked new list).number (list_checked new list).index)) (unwritten 1 0)).number ≡ 0
      → (whole ≡ true) × ((list_checked new list).number ≡ 0) × (large ≡ false) × (tight ≡ false)
  unfolding unwritten
  answer_case true true true tight size e h = absurd (omega arith)
  answer_case true true false true size e h = absurd (omega arith)
  answer_case true true false false size e h = (refl, eqb-true (list_checked new list).number 0 e, refl, refl)
  answer_case true false large tight size e h = absurd (eqb-false (list_checked new list).number 0 e h)
  answer_case false right large tight size e h = absurd (omega arith)

  all_passed : (room : ℕ) → (written new list room).number ≡ 0 → (eqb (length list % 32) 0 ≡ true) × ((list_checked new list).number ≡ 0) × (too_large new list ≡ false) × (ltb room (length (archive_of new list)) ≡ false)
  unfolding written
  all_passed room h =
      answer_case (eqb (length list % 32) 0) (eqb (list_checked new list).number 0) (too_large new list) (ltb room (length (archive_of new list))) (length (archive_of new list)) refl h

  pub written_tells : (room : ℕ) → (written new list room).number ≡ 0 → Writable new list
  unfolding too_large
  written_tells room h =
      let size : ℕ = length (archive_of new list) in
      let k = all_passed room h in
      let few : Bool = ltb 1200 (length (sections_of (entries_of list))) in
      let short : Bool = ltb 4294967295 size in
      record {
        whole = eqb-true (length list % 32) 0 k.0;
        forms = check_zero k.1;
        few = ltb-false 1200 (length (sections_of (entries_of list))) (or_left few short k.2);
        short = ltb-false 4294967295 size (or_right few short k.2);
      }

  pub written_fits : (room : ℕ) → (written new list room).number ≡ 0 → length (archive_of new list) ≤ room
  written_fits room h = ltb-false room (length (archive_of new list)) (all_passed room h).3

  pub writable_written : (room : ℕ) → Writable new list → length (archive_of new list) ≤ room → written new list room ≡ record { number = 0; index = 0; length = length (archive_of new list) }
  unfolding written too_large finding
  writable_written room w h =
      rw (eq-eqb (length list % 32) 0 w.whole, zero_check w.forms, le-ltb 1200 (length (sections_of (entries_of list))) w.few, le-ltb 4294967295 (length (archive_of new list)) w.short, le-ltb room (length (archive_of new list)) h)

-- ---- the reader

pub record Readable (a : List ℕ) : Type 0 where
  pub headed : wrong_header a ≡ false
  pub directed : right_directory a ≡ true
  pub zeros : Zeros (numbers_of (is_new a) (parts_of a))

check_case : (wrong right : Bool) (ns : List ℕ) → (cond wrong (finding 8 0) (cond right (first_refusal 0 ns) (finding 9 0))).number ≡ 0 → (wrong ≡ false) × (right ≡ true) × Zeros ns
unfolding finding
check_case true right ns h = absurd (omega arith)
check_case false true ns h = (refl, refl, all_zero 0 ns h)
check_case false false ns h = absurd (omega arith)

pub checked_tells : (a : List ℕ) → (checked a).number ≡ 0 → Readable a
unfolding checked
checked_tells a h =
    let k : (wrong_header a ≡ false) × (right_directory a ≡ true) × Zeros (numbers_of (is_new a) (parts_of a)) = check_case (wrong_header a) (right_directory a) (numbers_of (is_new a) (parts_of a)) h in
    record { headed = k.0; directed = k.1; zeros = k.2 }

pub readable_checked : (a : List ℕ) → Readable a → checked a ≡ finding 0 0
unfolding checked
readable_checked a r = rw (r.headed, r.directed) (none_refused 0 (numbers_of (is_new a) (parts_of a)) r.zeros)
