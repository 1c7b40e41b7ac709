-- What a check answers that hands an entry on.
use Rattle.std.specs.Prelude.{◌≡◌, ℕ, List, length, Result, MatchResult}
use Rattle.ledger.specs.Structs.{Entry, Ledger}
use Rattle.ledger.specs.Answers.{refused}
use Rattle.ledger.specs.Entries.{entry_of}
use Rattle.ledger.specs.Kinds.{code}
use Rattle.ledger.specs.declared.kinds.Kind.{Kind}
use Rattle.ledger.specs.Posting.{admission, posted}
use Rattle.ledger.specs.Refusals.{number}
use Rattle.ledger.specs.declared.admitted.Admitted.{Admitted}
use Rattle.ledger.specs.declared.refusals.Refusal.{Refusal}

-- R15: the kind of an entry whose number is 0, else the refusal that has it.
abbrev pub Finds : Result Kind Refusal → Entry → ℕ → Type 0
Finds r e n = MatchResult r (λ k. (n ≡ 0) × (e.kind ≡ code k)) (λ f. n ≡ number f)

-- R15 and R22: the entry where its number is 0, else the refusal that has it.
abbrev pub Admits : Result Admitted Refusal → Entry → ℕ → Type 0
Admits r e n = MatchResult r (λ a. (n ≡ 0) × (a.entry ≡ e)) (λ f. n ≡ number f)

-- R23: of bytes of any length, the entry that they hold where the ledger admits it, else what the posting answers.
abbrev pub Judges : Result Admitted Refusal → Ledger → List ℕ → Type 0
Judges r l bytes =
    MatchResult r (λ a. (length bytes ≡ 32) × (a.entry ≡ entry_of bytes) × (admission l (entry_of bytes) ≡ 0))
    (λ f. posted l bytes ≡ refused l (number f))
