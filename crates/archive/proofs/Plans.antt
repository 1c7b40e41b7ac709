-- The tests stand in the order of the numbers 1 to 12: whole entries, each of the right form, few and short enough, and room for them.
use borrow.Author.Tests.{ltb-true, ltb-false, lt-ltb, le-ltb, ne_eqb, eq-eqb}
use native.Mathlib.Omega.{arith}
use Prim.Native.Nat.{ℕ, ◌+◌, ◌*◌, ◌%◌, ◌<◌, ◌≤◌}
use mathlib.Core.Path.{◌≡◌, refl, sym, ap, ◌∙◌}
use mathlib.Core.Bool.{Bool, true, false, ◌||◌}
use mathlib.Core.List.{List, [], ◌∷◌, ◌++◌, map}
use lib.Dec.{ltb}
use lib.ListN.{length, drop}
use lib.Seq.{paste, length-paste}
use Rattle.std.proofs.lemmas.List.Edits.{paste_all}
use Rattle.tariff.proofs.Bools.{or_left}
use Rattle.ledger.specs.Forms.{form_number}
use Rattle.archive.specs.Entries.{entries_of, finding, first_refusal, numbers_by}
use Rattle.archive.specs.Faults.{fault_number}
use Rattle.archive.specs.declared.faults.Fault.{Fault}
use Rattle.archive.specs.Writing.{list_checked, too_large, unwritten, written, output_after}
use Rattle.archive.specs.Layout.{sections_of, concatenated, header, directory, body_at, archive_of}
use Rattle.archive.proofs.ArchiveSizes.{length_archive, all_put}
use Rattle.archive.proofs.Acceptance.{written_tells, written_fits}
use Rattle.archive.proofs.EntryLists.{together_all}
use Rattle.archive.proofs.Headers.{length_header}
use Rattle.archive.proofs.Directories.{length_directory}
use Rattle.archive.proofs.FirstFaults.{fault_refuses}

-- each entry by itself
numbers_map : (new : Bool) (es : List (List ℕ)) → map (form_number new) es ≡ numbers_by (λ ends e. form_number new e) es
unfolding numbers_by
numbers_map new [] = refl
numbers_map new (e ∷ es) = ap (λ ns. form_number new e ∷ ns) (numbers_map new es)

pub listed : (new : Bool) (s : List ℕ) (es : List (List ℕ)) → es ≡ entries_of s → list_checked new s ≡ first_refusal 0 (numbers_by (λ ends e. form_number new e) es)
unfolding list_checked
listed new s es e = rw (← e) (ap (first_refusal 0) (numbers_map new es))

pub counted : (k : ℕ) (es : List (List ℕ)) (s : List ℕ) → es ≡ entries_of s → k ≡ length (sections_of es) → k ≡ length (sections_of (entries_of s))
counted k es s e q = q ∙ rw e

pub small : (k n : ℕ) → ltb 1200 k || ltb 4294967295 n ≡ false → k ≤ 1200
small k n h = ltb-false 1200 k (or_left (ltb 1200 k) (ltb 4294967295 n) h)

module _ (new : Bool) (s : List ℕ) (room : ℕ) where
  pub in_pieces : (length s % 32 ≡ 0 → ⊥) → written new s room ≡ unwritten 1 0
  unfolding written
  in_pieces d = rw (ne_eqb (length s % 32) 0 d)

  module _ (h : length s % 32 ≡ 0) where
    pub refused : (f : Fault) (i : ℕ) → list_checked new s ≡ finding (fault_number f) i → written new s room ≡ unwritten (fault_number f) i
    unfolding written finding
    refused f i e = rw (eq-eqb (length s % 32) 0 h, e, fault_refuses f)

    module _ (z : list_checked new s ≡ finding 0 0) (k : ℕ) (q : k ≡ length (sections_of (entries_of s))) where
      abbrev size : ℕ
      size = length (archive_of new s)

      sized : size ≡ 8 + 8 * k + length s
      sized = length_archive new s h ∙ rw q

      many : 1200 < k → written new s room ≡ unwritten 11 0
      unfolding written too_large finding
      many m = rw (eq-eqb (length s % 32) 0 h, z, ← q, lt-ltb 1200 k m)

      pub long : k ≤ 1200 → 4294967295 < 8 + 8 * k + length s → written new s room ≡ unwritten 11 0
      unfolding written too_large finding
      long few m = rw (eq-eqb (length s % 32) 0 h, z, ← q, le-ltb 1200 k few, lt-ltb 4294967295 size (omega (arith, sized)))

      -- too many sections, or a list too long by itself
      pub large : ltb 1200 k || ltb 4294967295 (length s) ≡ true → written new s room ≡ unwritten 11 0
      large t = go (ltb 1200 k) refl
        where
          go : (b : Bool) → ltb 1200 k ≡ b → written new s room ≡ unwritten 11 0
          go true u = many (ltb-true 1200 k u)
          go false u = long (ltb-false 1200 k u) (omega (arith, ltb-true 4294967295 (length s) (rw u at t)))

      module _ (few : k ≤ 1200) (short : 8 + 8 * k + length s ≤ 4294967295) where
        pub tight : room < 8 + 8 * k + length s → written new s room ≡ unwritten 12 0
        unfolding written too_large finding
        tight m = rw (eq-eqb (length s % 32) 0 h, z, ← q, le-ltb 1200 k few, le-ltb 4294967295 size (omega (arith, sized)), lt-ltb room size (omega (arith, sized)))

        pub whole : 8 + 8 * k + length s ≤ room → written new s room ≡ record { number = 0; index = 0; length = 8 + 8 * k + length s }
        unfolding written too_large finding
        whole m = rw (eq-eqb (length s % 32) 0 h, z, ← q, le-ltb 1200 k few, le-ltb 4294967295 size (omega (arith, sized)), le-ltb room size (omega (arith, sized)), sized)

-- ---- what a planned archive may count on

pub record Planned (list : List ℕ) (es : List (List ℕ)) (count room : ℕ) : Type 0 where
  pub whole : length list % 32 ≡ 0
  pub bytes : concatenated es ≡ list
  pub few : count ≤ 1200
  pub short : 8 + 8 * count + length (concatenated es) ≤ 4294967295
  pub fits : 8 + 8 * count + length (concatenated es) ≤ room

pub planned : (new : Bool) (list : List ℕ) (room : ℕ) → (written new list room).number ≡ 0 → (es : List (List ℕ)) → es ≡ entries_of list → (count : ℕ) → count ≡ length (sections_of es) → Planned list es count room
planned new list room z es e count q =
    let w = written_tells new list room z in
    let size = length_archive new list w.whole in
    let bytes : concatenated es ≡ list = rw e (together_all list w.whole) in
    let k = counted count es list e q in
    let n = ap length bytes in
    record {
      whole = w.whole;
      bytes = bytes;
      few = omega (arith, w);
      short = omega (arith, w);
      fits = omega (arith, written_fits new list room z);
    }

module _ (new : Bool) (list d : List ℕ) (es : List (List ℕ)) (count : ℕ) (p : Planned list es count (length d)) (h x : List ℕ) (hh : h ≡ header new count) (hx : x ≡ h ++ drop 8 d) where
  pub head_length : length h ≡ 8
  head_length = ap length hh ∙ length_header new count

  headed : x ≡ paste d 0 (header new count) 8
  headed = hx ∙ rw hh (sym (paste_all d 0 (header new count) 8 (sym (length_header new count))))

  pub head_kept : length x ≡ length d
  head_kept = ap length headed ∙ length-paste d 0 (header new count) 8 (omega (arith, p)) (omega (arith, length_header new count))

  module _ (q : count ≡ length (sections_of es)) (y : List ℕ) (hy : y ≡ paste x 8 (directory (body_at count) (sections_of es)) (8 * count)) where
    pub pairs_kept : length y ≡ length d
    pairs_kept =
        let size = length_directory (body_at count) (sections_of es) in
        ap length hy ∙ length-paste x 8 (directory (body_at count) (sections_of es)) (8 * count) (omega (arith, p, head_kept)) (omega arith) ∙ head_kept

    pub archive_put : (e : es ≡ entries_of list) (z : List ℕ) → z ≡ paste y (8 + 8 * count) (concatenated es) (length (concatenated es)) → z ≡ archive_of new list ++ drop (length (archive_of new list)) d
    archive_put e z hz = all_put new list d x y z count p.whole (counted count es list e q) headed (rw e at hy) (rw p.bytes at hz)

-- ---- what the output is then

pub untouched : (new : Bool) (list out : List ℕ) (f : Fault) (i : ℕ) → written new list (length out) ≡ unwritten (fault_number f) i → out ≡ output_after new list out
unfolding output_after unwritten
untouched new list out f i e = rw (e, fault_refuses f)
