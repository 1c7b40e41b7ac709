-- What C is answered is one for each answer of the reader and the writer. Three lemmas, as a search finds each by its own relation, so the door needs no answers.
use mathlib.Core.Path.{◌≡◌, refl, sym, ap, ◌∙◌}
use Prim.Native.Nat.{ℕ}
use Rattle.std.specs.Prelude.{⊤, Result, Ok, Err}
use Rattle.std.specs.Result.{IsErrAnd}
use Rattle.std.proofs.lemmas.Result.{err_from_is_err_and}
use Rattle.archive.specs.Structs.{Checked, Place, Written}
use Rattle.archive.specs.declared.answers.Span.{Span}
use Rattle.archive.specs.declared.faults.Trouble.{Trouble}
use Rattle.archive.specs.declared.faults.Fault.TheVariants as fault
use Rattle.archive.specs.Faults.{fault_number, Tells, LiesAt, Holds}

-- the answer by which a `?` hands a fault on
pub handed_on : {T E : Type 0} (r : Result T E) (e : E) → IsErrAnd r (λ y. y ≡ e) → r ≡ Err e
handed_on r e h = let p = err_from_is_err_and r h in p.1 ∙ ap Err p.2

pub told_once : (r : Result ⊤ Trouble) (c d : Checked) → Tells r c → Tells r d → c ≡ d
told_once (Ok x) c d p q = p ∙ sym q
told_once (Err t) c d p q = p ∙ sym q

pub placed_once : (r : Result Span Trouble) (p q : Place) → LiesAt r p → LiesAt r q → p ≡ q
placed_once (Ok s) p q h k = h ∙ sym k
placed_once (Err t) p q h k = h ∙ sym k

pub written_once : (r : Result ℕ Trouble) (v w : Written) → Holds r v → Holds r w → v ≡ w
written_once (Ok n) v w h k = h ∙ sym k
written_once (Err t) v w h k = h ∙ sym k

-- a loan too short for what is stored in it
pub no_room : fault_number fault.NoRoom ≡ 12
unfolding fault_number
no_room = refl
