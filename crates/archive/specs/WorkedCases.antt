-- A short list and archives with one fault each: no writer or reader that refuses everything, or has another format, meets these.
use Rattle.std.specs.Prelude.{ℕ, zero, suc, pos, Bool, true, false, List, [], ◌∷◌, ◌++◌, replicate, ◌≡◌}
use Rattle.ledger.specs.MarkedCases.{word, posting, terms, enrol, close_month}
use Rattle.archive.specs.Entries.{finding}
use Rattle.archive.specs.Writing.{unwritten, written, output_after}
use Rattle.archive.specs.Reading.{checked, nowhere, place_of, section_at}
use Rattle.archive.specs.Replay.{figures_of, replayed}

-- R83: the terms of all examples, and account 0 with MDQ 4,200 and an opening of 1,000.
abbrev pub list : List ℕ
list = terms ++ enrol 2 4200 1000

-- R83: an archive of one section, its head and its only pair written out byte by byte.
abbrev pub one_section : ℕ → ℕ → List ℕ → List ℕ
one_section version length section =
    69 ∷ 70 ∷ 66 ∷ version ∷ 1 ∷ 0 ∷ 0 ∷ 0 ∷ 16 ∷ 0 ∷ 0 ∷ 0 ∷ length ∷ 0 ∷ 0 ∷ 0 ∷ section

-- R83: the archive of that list.
abbrev pub archive : List ℕ
archive = one_section 49 64 list

-- R87: the new archive of that list.
abbrev pub new_archive : List ℕ
new_archive = one_section 50 64 list

-- R85: an amount confiscated from account 0, on 31 January 2027.
abbrev pub confiscated : List ℕ
confiscated = 10 ∷ 0 ∷ 0 ∷ 0 ∷ 235 ∷ 7 ∷ 1 ∷ 31 ∷ 5 ∷ replicate 23 0

-- R102: Christmas named as a holiday.
abbrev pub holiday : List ℕ
holiday = posting 11 0 1 2026 12 25 0 0 0

-- R108: account 0 gives 5 units to account 1, in a letter.
abbrev pub letter : List ℕ
letter = 12 ∷ 0 ∷ 1 ∷ 0 ∷ 234 ∷ 7 ∷ 4 ∷ 1 ∷ 5 ∷ replicate 23 0

-- R112: an entry of 1 April 2027, from which day on a new ledger has letters alone.
abbrev pub year_later : ℕ → ℕ → ℕ → ℕ → List ℕ → List ℕ
year_later kind a b flags words = kind ∷ a ∷ b ∷ flags ∷ 235 ∷ 7 ∷ 4 ∷ 1 ∷ words

-- R37: 5 units from account 0 to account 1 on that day; and what has to come before, with 1,000 units for either.
abbrev pub transfer : List ℕ
transfer = year_later 4 0 1 0 (word 5 ++ word 5 ++ replicate 16 0)

abbrev pub two_suppliers : List ℕ
two_suppliers =
    year_later 1 0 0 0 (word 120000 ++ word 480000 ++ word 5000400 ++ word 150 ++ replicate 8 0)
    ++ year_later 2 0 0 2 (word 4200 ++ word 1000 ++ replicate 16 0)
    ++ year_later 2 1 0 2 (word 4200 ++ word 1000 ++ replicate 16 0)

-- R83: so many months closed, and nothing else.
abbrev pub closings : ℕ → List ℕ
closings zero = []
closings (suc n) = close_month 0 0 0 0 ++ closings n

-- R83: the cases.
pub record WorkedCases : Type 0 where
  -- R75: the list is written, and the byte past its archive stays; the new archive differs in its fourth byte alone (R87).
  pub answer : (new : Bool) → written new list 81 ≡ record { number = 0; index = 0; length = 80 }
  pub output : output_after false list (replicate 81 7) ≡ archive ++ 7 ∷ []
  pub new_output : output_after true list (replicate 81 7) ≡ new_archive ++ 7 ∷ []
  -- R73, R74 and R77: it is read back: two accepted, none refused, 1,000 in bank.
  pub read : checked archive ≡ finding 0 0
  pub section : section_at archive 0 ≡ list
  pub new_read : (checked new_archive ≡ finding 0 0) × (section_at new_archive 0 ≡ list) × (figures_of new_archive ≡ figures_of archive)
  pub figures : figures_of archive ≡ record { number = 0; index = 0; accepted = 2; refused = 0; figure = record { 0 = pos 1000 } }
  -- R71: the fourth of the first bytes is another.
  pub number8 : (checked (one_section 48 64 list) ≡ finding 8 0) × (checked (one_section 51 64 list) ≡ finding 8 0)
  -- R72: the pair ends an entry before the file.
  pub number9 : checked (one_section 49 32 list) ≡ finding 9 0
  -- R73: a month is closed before the section's last entry; the entry that closes it is at fault.
  pub number10 : checked (one_section 49 64 (close_month 0 0 0 0 ++ terms)) ≡ finding 10 0
  -- R75: one section too many.
  pub number11 : written false (closings 1201) 100000 ≡ unwritten 11 0
  -- R75: the output is one byte too short, and keeps its bytes.
  pub number12 : (written true list 79 ≡ unwritten 12 0) × (output_after true list (replicate 79 7) ≡ replicate 79 7)
  -- R74: there is no second section.
  pub number13 : (place_of archive 1 ≡ nowhere 13 0) × (section_at archive 1 ≡ [])
  -- R84: the tenth kind is one in a new archive, and gets 2 at its index in an old one; so the writer tells, too.
  pub tenth_kind :
      (checked (one_section 50 96 (list ++ confiscated)) ≡ finding 0 0)
      × (checked (one_section 49 96 (list ++ confiscated)) ≡ finding 2 2)
      × (written true (list ++ confiscated) 112 ≡ record { number = 0; index = 0; length = 112 })
      × (written false (list ++ confiscated) 112 ≡ unwritten 2 2)
  -- R84: and so is the eleventh.
  pub eleventh_kind : (checked (one_section 50 96 (list ++ holiday)) ≡ finding 0 0) × (checked (one_section 49 96 (list ++ holiday)) ≡ finding 2 2)
  -- R108: and the twelfth; there is no thirteenth.
  pub twelfth_kind :
      (checked (one_section 50 96 (list ++ letter)) ≡ finding 0 0)
      × (checked (one_section 49 96 (list ++ letter)) ≡ finding 2 2)
      × (written true (list ++ letter) 112 ≡ record { number = 0; index = 0; length = 112 })
      × (written false (list ++ letter) 112 ≡ unwritten 2 2)
      × (checked (one_section 50 96 (list ++ posting 13 0 1 0 0 0 0 0 0)) ≡ finding 2 2)
      × (written true (list ++ posting 13 0 1 0 0 0 0 0 0) 112 ≡ unwritten 2 2)
  -- R112: the TRANSFER that only a new ledger refuses is written and read by new and old alike, as 36 comes of the ledger; the replay counts it as refused.
  pub transfer_retired :
      ((new : Bool) → written new (two_suppliers ++ transfer) 144 ≡ record { number = 0; index = 0; length = 144 })
      × (checked (one_section 50 128 (two_suppliers ++ transfer)) ≡ finding 0 0)
      × (checked (one_section 49 128 (two_suppliers ++ transfer)) ≡ finding 0 0)
      × (figures_of (one_section 50 128 (two_suppliers ++ transfer))
      ≡ record { number = 0; index = 0; accepted = 3; refused = 1; figure = record { 0 = pos 2000 } })
      × (figures_of (one_section 49 128 (two_suppliers ++ transfer))
      ≡ record { number = 0; index = 0; accepted = 4; refused = 0; figure = record { 0 = pos 2000 } })
  -- R87: a refused archive is replayed as no entries to a fresh ledger, new where its first four bytes are those of a new one.
  pub refused_new :
      ((replayed (69 ∷ 70 ∷ 66 ∷ 50 ∷ [])).ledger.is_new ≡ true)
      × ((replayed (69 ∷ 70 ∷ 66 ∷ 49 ∷ [])).ledger.is_new ≡ false)
      × ((replayed (69 ∷ 70 ∷ 66 ∷ [])).ledger.is_new ≡ false)
