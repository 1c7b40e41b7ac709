-- The eight bytes that the writer puts are those that the reader asks for: four constants, the count in two bytes, two zeros.
use borrow.Author.Tests.{eqb-true, ltb-false, eq-eqb, le-ltb, not-false}
use native.Mathlib.Omega.{arith}
use Prim.Native.Nat.{ℕ, ◌+◌, ◌*◌, ◌/◌, ◌%◌, ◌<◌, ◌≤◌}
use mathlib.Core.Path.{◌∙◌, ◌≡◌, refl, sym}
use mathlib.Core.Bool.{Bool, true, false, ◌||◌}
use mathlib.Core.List.{List, [], ◌∷◌, ◌++◌}
use lib.Dec.{eqb}
use lib.ListN.{length, get_or, take}
use lib.Seq.{take-suc}
use Rattle.tariff.proofs.Bools.{and_left, and_right, or_left, or_right}
use Rattle.ledger.specs.Entries.{half_at}
use Rattle.archive.specs.Words.{bytes_of}
use Rattle.archive.specs.Layout.{opening_bytes, header, body_at}
use Rattle.archive.specs.Reading.{section_count, opens_as, right_opening, is_new, wrong_header}
use Rattle.archive.specs.RoundTrips.{Bytes}
use Rattle.ledger.proofs.Fields.{half_bytes}

-- ---- as it is written

pub length_header : (new : Bool) (n : ℕ) → length (header new n) ≡ 8
unfolding header bytes_of
length_header new n = refl

pub count_put : (new : Bool) (n : ℕ) (rest : List ℕ) → n < 65536 → section_count (header new n ++ rest) ≡ n
unfolding section_count header bytes_of
count_put new n rest h = half_bytes (header new n ++ rest) 4 ∙ omega arith

pub opening_put : (new : Bool) (n : ℕ) (rest : List ℕ) → right_opening (header new n ++ rest) ≡ true
unfolding right_opening opens_as header
opening_put true n rest = refl
opening_put false n rest = refl

pub kind_put : (new : Bool) (n : ℕ) (rest : List ℕ) → is_new (header new n ++ rest) ≡ new
unfolding is_new opens_as header
kind_put true n rest = refl
kind_put false n rest = refl

pub zeros_put : (new : Bool) (n : ℕ) (rest : List ℕ) → (get_or (header new n ++ rest) 6 0 ≡ 0) × (get_or (header new n ++ rest) 7 0 ≡ 0)
unfolding header bytes_of
zeros_put new n rest = (refl, refl)

-- ---- as it is checked

pub record Headed (a : List ℕ) : Type 0 where
  pub long : 8 ≤ length a
  pub short : length a ≤ 4294967295
  pub opens : right_opening a ≡ true
  pub six : get_or a 6 0 ≡ 0
  pub seven : get_or a 7 0 ≡ 0
  pub few : section_count a ≤ 1200
  pub room : body_at (section_count a) ≤ length a

pub headed_right : (a : List ℕ) → Headed a → wrong_header a ≡ false
unfolding wrong_header
headed_right a h =
    rw (le-ltb (length a) 8 h.long, le-ltb 4294967295 (length a) h.short, h.opens, eq-eqb (get_or a 6 0) 0 h.six, eq-eqb (get_or a 7 0) 0 h.seven, le-ltb 1200 (section_count a) h.few, le-ltb (length a) (body_at (section_count a)) h.room)

pub header_checked : (a : List ℕ) → wrong_header a ≡ false → Headed a
unfolding wrong_header
header_checked a h =
    record {
      long = ltb-false (length a) 8 (search (or_left, or_right) depth 7);
      short = ltb-false 4294967295 (length a) (search (or_left, or_right) depth 7);
      opens = not-false (right_opening a) (search (or_left, or_right) depth 7);
      six = eqb-true (get_or a 6 0) 0 (not-false (eqb (get_or a 6 0) 0) (search (or_left, or_right) depth 7));
      seven = eqb-true (get_or a 7 0) 0 (not-false (eqb (get_or a 7 0) 0) (search (or_left, or_right) depth 7));
      few = ltb-false 1200 (section_count a) (search (or_left, or_right) depth 7);
      room = ltb-false (length a) (body_at (section_count a)) (search (or_left, or_right) depth 7);
    }

-- the sizes alone, as loops over the directory need them
pub record Measured (a : List ℕ) : Type 0 where
  pub long : 8 ≤ length a
  pub short : length a ≤ 4294967295
  pub few : section_count a ≤ 1200
  pub room : 8 + 8 * section_count a ≤ length a

pub measured : (a : List ℕ) → wrong_header a ≡ false → Measured a
unfolding body_at
measured a h =
    let k = header_checked a h in record { long = k.long; short = k.short; few = k.few; room = k.room }

-- ---- the one is the other

-- an opening that is right is that of the kind which the archive says it is
opening_case : (old new : Bool) → old || new ≡ true → new ≡ false → old ≡ true
opening_case true new h k = refl
opening_case false new h k = sym k ∙ h

opens_as_lem : (a : List ℕ) → right_opening a ≡ true → opens_as (is_new a) a ≡ true
unfolding right_opening is_new
opens_as_lem a h = go (opens_as true a) refl
  where
    go : (new : Bool) → opens_as true a ≡ new → opens_as new a ≡ true
    go true e = e
    go false e = opening_case (opens_as false a) (opens_as true a) h e

pub opening_bytes_lem : (new : Bool) (a : List ℕ) → opens_as new a ≡ true
    → (get_or a 0 0 ≡ get_or (opening_bytes new) 0 0) × (get_or a 1 0 ≡ get_or (opening_bytes new) 1 0) × (get_or a 2 0 ≡ get_or (opening_bytes new) 2 0) × (get_or a 3 0 ≡ get_or (opening_bytes new) 3 0)
unfolding opens_as
opening_bytes_lem new a h = (
  eqb-true (get_or a 0 0) (get_or (opening_bytes new) 0 0) (search (and_left, and_right)),
  eqb-true (get_or a 1 0) (get_or (opening_bytes new) 1 0) (search (and_left, and_right)),
  eqb-true (get_or a 2 0) (get_or (opening_bytes new) 2 0) (search (and_left, and_right)),
  eqb-true (get_or a 3 0) (get_or (opening_bytes new) 3 0) (search (and_left, and_right)),
)

-- the first four bytes of an archive that opens rightly
pub opened : (a : List ℕ) → right_opening a ≡ true
    → (get_or a 0 0 ≡ get_or (opening_bytes (is_new a)) 0 0) × (get_or a 1 0 ≡ get_or (opening_bytes (is_new a)) 1 0) × (get_or a 2 0 ≡ get_or (opening_bytes (is_new a)) 2 0) × (get_or a 3 0 ≡ get_or (opening_bytes (is_new a)) 3 0)
opened a h = opening_bytes_lem (is_new a) a (opens_as_lem a h)

eight : (a : List ℕ) → 8 ≤ length a
    → take 8 a ≡ get_or a 0 0 ∷ get_or a 1 0 ∷ get_or a 2 0 ∷ get_or a 3 0 ∷ get_or a 4 0 ∷ get_or a 5 0 ∷ get_or a 6 0 ∷ get_or a 7 0 ∷ []
eight a h =
    rw (take-suc a 7 0 (omega arith), take-suc a 6 0 (omega arith), take-suc a 5 0 (omega arith), take-suc a 4 0 (omega arith), take-suc a 3 0 (omega arith), take-suc a 2 0 (omega arith), take-suc a 1 0 (omega arith), take-suc a 0 0 (omega arith))

pub header_again : (a : List ℕ) → Bytes a → Headed a → header (is_new a) (section_count a) ≡ take 8 a
unfolding header bytes_of section_count
header_again a b h =
    let o = opened a h.opens in
    let low : half_at a 4 % 256 ≡ get_or a 4 0 = rw (half_bytes a 4) (omega (arith, b 4, b 5)) in
    let high : half_at a 4 / 256 % 256 ≡ get_or a 5 0 = rw (half_bytes a 4) (omega (arith, b 4, b 5)) in
    rw (eight a h.long, o.0, o.1, o.2, o.3, h.six, h.seven, low, high)
