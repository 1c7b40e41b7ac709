-- The writer packs sections that the reader finds right, and reading takes them out as they were; an accepted archive has right sections, and packing them leaves no choice of bytes.
use borrow.Author.Tests.{lt-ltb}
use native.Mathlib.Nat.{zero-add}
use Prim.Native.Nat.{ℕ, ◌<◌, ◌≤◌}
use mathlib.Core.Path.{◌≡◌, sym, ap, ◌∙◌}
use mathlib.Core.Bool.{Bool}
use mathlib.Core.List.{List, []}
use lib.ListN.{length, get_or}
use Rattle.archive.specs.Entries.{entries_of, finding}
use Rattle.archive.specs.Layout.{sections_of, packed, archive_of}
use Rattle.archive.specs.Reading.{section_count, is_new, pair_at, pairs_of, part_at, parts_of, checked, place_of, section_at, list_of}
use Rattle.archive.specs.RoundTrips.{Bytes, Read, ReadsBack, Remade, WritesBack}
use Rattle.archive.proofs.ArchiveSizes.{sections_all}
use Rattle.archive.proofs.Partitions.{Sound, cut_sound, sections_again, forms_right, together_whole}
use Rattle.archive.proofs.Headers.{Headed, header_checked}
use Rattle.archive.proofs.Stretches.{part_at_lem}
use Rattle.archive.proofs.Acceptance.{Writable, written_tells, writable_written, Readable, checked_tells, readable_checked}
use Rattle.archive.proofs.Packing.{count_packed, header_packed, kind_packed, directory_packed, parts_packed, list_packed, count_parts, parts_good, list_parts, packed_again}

-- a section of an accepted archive is its part
section_part : (a : List ℕ) (i : ℕ) → checked a ≡ finding 0 0 → i < section_count a → section_at a i ≡ get_or (parts_of a) i []
unfolding section_at place_of finding parts_of pairs_of part_at
section_part a i c h = rw (c, lt-ltb i (section_count a) h) (sym (part_at_lem a (section_count a) 0 i h ∙ ap (λ (k : ℕ). part_at a (pair_at a k)) (zero-add i)))

-- ---- a list, written and read

module _ (new : Bool) (list : List ℕ) (w : Writable new list) where
  abbrev ss : List (List ℕ)
  ss = sections_of (entries_of list)

  sound : Sound new ss
  sound = cut_sound new (entries_of list) w.forms

  short : length (packed new ss) ≤ 4294967295
  unfolding archive_of
  short = w.short

  kind : is_new (packed new ss) ≡ new
  kind = kind_packed new ss

  readable : Readable (packed new ss)
  readable =
      record {
        headed = header_packed new ss sound.good w.few short;
        directed = directory_packed new ss sound.good w.few short;
        zeros = rw (parts_packed new ss sound.good w.few short, kind) sound.zeros;
      }

  count : section_count (packed new ss) ≡ length ss
  count = count_packed new ss sound.good w.few short

  read : Read new list
  unfolding archive_of
  read =
      record {
        accepted = readable_checked (packed new ss) readable;
        kind = kind;
        whole = list_packed new ss sound.good w.few short ∙ sections_all list w.whole;
        count = count;
        sections = λ i h. section_part (packed new ss) i (readable_checked (packed new ss) readable) (rw count h) ∙ ap (λ (l : List (List ℕ)). get_or l i []) (parts_packed new ss sound.good w.few short);
        joined = sections_all list w.whole;
      }

pub reads_back : ReadsBack
reads_back new list room h = read new list (written_tells new list room h)

-- ---- an archive, read and written

module _ (a : List ℕ) (b : Bytes a) (r : Readable a) where
  headed : Headed a
  headed = header_checked a r.headed

  cut_again : sections_of (entries_of (list_of a)) ≡ parts_of a
  cut_again = rw (list_parts a r.directed) at (sections_again (is_new a) (parts_of a) (parts_good a r.directed) r.zeros)

  same : archive_of (is_new a) (list_of a) ≡ a
  unfolding archive_of
  same = ap (packed (is_new a)) cut_again ∙ packed_again a r.directed b r.headed

  writable : Writable (is_new a) (list_of a)
  writable =
      record {
        whole = rw (list_parts a r.directed) at (together_whole (parts_of a) (parts_good a r.directed));
        forms = rw (list_parts a r.directed) at (forms_right (is_new a) (parts_of a) (parts_good a r.directed) r.zeros);
        few = rw (cut_again, count_parts a r.directed) headed.few;
        short = rw same headed.short;
      }

  remade : Remade a
  remade =
      record {
        same = same;
        answer = λ room h. rw same at (writable_written (is_new a) (list_of a) room writable (rw same h));
        fits = headed.short;
      }

pub writes_back : WritesBack
writes_back a b h = remade a b (checked_tells a h)
