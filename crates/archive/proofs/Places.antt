-- Past all checks an archive has a place for each of its sections, and a list; a refused one has neither.
use borrow.Author.Tests.{lt-ltb, le-ltb}
use native.Mathlib.Nat.{add-sub_cancel_left}
use Prim.Native.Nat.{ℕ, ◌+◌, ◌-◌, ◌<◌, ◌≤◌}
use mathlib.Core.Path.{◌≡◌, ap}
use mathlib.Core.List.{List, []}
use lib.ListN.{length, take, drop}
use Rattle.std.specs.Prelude.{Option, None, Some, MatchOption}
use Rattle.std.specs.Option.{ok_or}
use Rattle.archive.specs.Structs.{Place}
use Rattle.archive.specs.Entries.{first_entries, entries_of, finding}
use Rattle.archive.specs.Faults.{fault_number, LiesAt}
use Rattle.archive.specs.declared.faults.Fault.TheVariants as fault
use Rattle.archive.specs.declared.answers.Span.{Span}
use Rattle.archive.specs.declared.faults.Fault.{Fault}
use Rattle.archive.specs.Reading.{section_count, checked, pair_at, nowhere, place_of, section_at, list_of}
use Rattle.archive.specs.Replay.{list_in, entries_in}
use Rattle.archive.proofs.FirstFaults.{fault_refuses}

module _ (a : List ℕ) where
  module _ (f : Fault) (n : ℕ) (e : checked a ≡ finding (fault_number f) n) where
    pub refused_place : (i : ℕ) → place_of a i ≡ nowhere (fault_number f) n
    unfolding place_of finding
    refused_place i = rw (e, fault_refuses f)

    pub refused_list : [] ≡ entries_in a
    unfolding entries_in list_in entries_of first_entries finding
    refused_list = rw (e, fault_refuses f)

  module _ (e : checked a ≡ finding 0 0) where
    pub none_such : (i : ℕ) → section_count a ≤ i → place_of a i ≡ nowhere 13 0
    unfolding place_of finding
    none_such i h = rw (e, le-ltb i (section_count a) h)

    pub found : (i s l : ℕ) → i < section_count a → s ≡ (pair_at a i).0 → l ≡ (pair_at a i).1 → place_of a i ≡ record { number = 0; index = 0; start = s; length = l }
    unfolding place_of finding
    found i s l h p q = rw (e, lt-ltb i (section_count a) h, p, q)

    pub accepted_list : entries_of (list_of a) ≡ entries_in a
    unfolding entries_in list_in finding
    accepted_list = rw e

    -- pair i of the directory, or why there is none
    pub asked : (i : ℕ) (o : Option Span) → MatchOption o (section_count a ≤ i) (λ s. (i < section_count a) × (s.start ≡ (pair_at a i).0) × (s.length ≡ (pair_at a i).1) × (s.start + s.length ≤ length a))
        → LiesAt (ok_or o (record { fault = fault.NoSuchSection; index = 0 })) (place_of a i)
    unfolding fault_number
    asked i None h = none_such i h
    asked i (Some s) h = found i s.start s.length h.0 h.1 h.2

  -- the part between a place's start and its end
  pub part_lent : (i s l : ℕ) → place_of a i ≡ record { number = 0; index = 0; start = s; length = l }
      → (take (s + l - s) (drop s a) ≡ section_at a i) × ((place_of a i).number ≡ 0) × ((place_of a i).index ≡ 0)
  unfolding section_at
  part_lent i s l e = (rw (e, add-sub_cancel_left s l), ap (λ (p : Place). p.number) e, ap (λ (p : Place). p.index) e)
