-- What is wrong with a list, an archive or a question about one, and what C is answered for it.
use Rattle.std.specs.Prelude.{ℕ, List, ◌≡◌, ⊤, Result, MatchResult}
use denote.Ref.{Bor}
use Rattle.ledger.specs.Refusals.{number}
use Rattle.archive.specs.Structs.{Checked, Place, Written}
use Rattle.archive.specs.declared.answers.Span.{Span}
use Rattle.archive.specs.declared.faults.Trouble.{Trouble}
use Rattle.archive.specs.declared.faults.Fault.{Fault}
use Rattle.archive.specs.declared.faults.Fault.TheVariants as fault
use Rattle.archive.specs.Entries.{finding}
use Rattle.archive.specs.Reading.{nowhere, place_of, section_at}
use Rattle.archive.specs.Writing.{unwritten}

-- R71 to R75: the number of a fault.
unfoldable pub fault_number : Fault → ℕ
fault_number fault.InPieces = 1
fault_number (fault.Entry r) = number r
fault_number fault.WrongHeader = 8
fault_number fault.WrongDirectory = 9
fault_number fault.Misplaced = 10
fault_number fault.TooLarge = 11
fault_number fault.NoRoom = 12
fault_number fault.NoSuchSection = 13

-- R73: what is answered of an entry for its number: nothing for 0, else the fault that has it.
abbrev pub Passes : Result ⊤ Fault → ℕ → Type 0
Passes r n = MatchResult r (λ _. n ≡ 0) (λ f. n ≡ fault_number f)

-- R73: what is answered for a finding: nothing for 0 and 0, else the fault that has its number, and its index.
abbrev pub Tells : Result ⊤ Trouble → Checked → Type 0
Tells r c = MatchResult r (λ _. c ≡ finding 0 0) (λ t. c ≡ finding (fault_number t.fault) t.index)

-- R74: what is answered for the place of a section: the part, or why there is none.
abbrev pub LiesAt : Result Span Trouble → Place → Type 0
LiesAt r p = MatchResult r (λ s. p ≡ record { number = 0; index = 0; start = s.start; length = s.length }) (λ t. p ≡ nowhere (fault_number t.fault) t.index)

-- R75: what the writer answers: the archive's length, or why there is none.
abbrev pub Holds : Result ℕ Trouble → Written → Type 0
Holds r w = MatchResult r (λ n. w ≡ record { number = 0; index = 0; length = n }) (λ t. w ≡ unwritten (fault_number t.fault) t.index)

-- R74: what is answered for section i: the bytes of the file itself, or why there are none.
abbrev pub Lent : Result (Bor (List ℕ)) Trouble → List ℕ → ℕ → Type 0
Lent r a i = MatchResult r (λ s. (s.now ≡ section_at a i) × ((place_of a i).number ≡ 0) × ((place_of a i).index ≡ 0)) (λ t. place_of a i ≡ nowhere (fault_number t.fault) t.index)
