-- A table has for a kind what the row that names it says, or what is said of a kind that no row names.
use Prim.Native.Nat.{ℕ}
use mathlib.Core.Path.{◌≡◌, refl}
use mathlib.Core.List.{List, [], ◌∷◌}
use lib.Dec.{eqb}
use borrow.Author.Tests.{eqb-true}
use Rattle.tariff.proofs.Bools.{either}
use Rattle.ledger.specs.Kinds.{TERMS, code, lookup}
use Rattle.ledger.specs.contracts.kinds as kinds
use Rattle.ledger.specs.declared.kinds.Kind.{Kind}
use Rattle.ledger.specs.declared.kinds.Kind.TheVariants as kind
use denote.Enum.Bare.{sameb}

-- P of each row, where it is the kind's
infixr 67 ◌then◌
pub data Each {A : Type 0} (P : A → Type 0) (kind : ℕ) : List (ℕ × A) → Type 0 where
  done : Each P kind []
  ◌then◌ : {r : ℕ × A} {rest : List (ℕ × A)} → (kind ≡ r.0 → P r.1) → Each P kind rest → Each P kind (r ∷ rest)

-- P of what the table has
pub each : {A : Type 0} (P : A → Type 0) (kind : ℕ) {table : List (ℕ × A)} (x : A) → Each P kind table → P x → P (lookup kind table x)
unfolding lookup
each P kind x done p = p
each P kind x (◌then◌ {r} {rest} row rows) p =
    either P (eqb kind r.0) r.1 (lookup kind rest x) (λ t. row (eqb-true kind r.0 t)) (λ _. each P kind x rows p)

-- a kind is TERMS where its number is
pub is_terms : (k : Kind) → sameb kinds.Kind.the_type k kind.Terms ≡ eqb (code k) TERMS
unfolding code
is_terms kind.Terms = refl
is_terms kind.Enrol = refl
is_terms kind.Deliver = refl
is_terms kind.Transfer = refl
is_terms kind.Trade = refl
is_terms kind.Measure = refl
is_terms kind.Usage = refl
is_terms kind.CloseDay = refl
is_terms kind.CloseMonth = refl
is_terms kind.Confiscated = refl
is_terms kind.Holiday = refl
is_terms kind.Notice = refl
