-- Numbers 2 to 7, 20 to 23 and 36 are one list of checks, so that none was given tells of each that it found nothing wrong: what that says of the entry and the ledger.
use Prim.Native.Nat.{ℕ}
use mathlib.Core.Path.{◌≡◌, refl, sym, ap, ◌∙◌}
use mathlib.Core.Bool.{Bool, true, false, cond, not, ◌&&◌}
use lib.Dec.{eqb, leb}
use borrow.Author.Tests.{eqb-true, eq-eqb, ne_eqb, not-false}
use Rattle.tariff.specs.Dates.{before, real, same_date}
use Rattle.ledger.specs.Checks.{verdict}
use Rattle.ledger.specs.Kinds.{code, kind_of, version}
use Rattle.ledger.specs.Forms.{field_checks, field_number, entry_checks, entry_number}
use Rattle.ledger.specs.Ranges.{in_range}
use Rattle.ledger.specs.Days.{letters_alone, retired, wrong_day}
use Rattle.ledger.specs.State.{held_in}
use Rattle.ledger.specs.Posting.{standing_checks, admission}
use Rattle.ledger.specs.Structs.{Entry, Ledger}
use Rattle.ledger.specs.contracts.kinds as kinds
use Rattle.ledger.specs.declared.admitted.Admitted.{Admitted}
use Rattle.ledger.specs.declared.kinds.Kind.{Kind}
use Rattle.ledger.specs.declared.kinds.Kind.TheVariants as kind
use Rattle.ledger.proofs.KindCases.{is_terms}
use denote.Enum.Bare.{sameb}
use Rattle.tariff.specs.Holidays.{held_dates}
use Rattle.ledger.proofs.RightEntries as right
use Rattle.ledger.proofs.Verdicts.{first, clear, verdict_append}

module _ (l : Ledger) (e : Entry) where
  abbrev own : ℕ
  own = entry_number l.is_new e

  admission_by : admission l e ≡ cond (eqb own 0) (verdict (standing_checks l e)) own
  unfolding admission entry_number entry_checks field_checks
  admission_by = verdict_append (entry_checks l.is_new e) (standing_checks l e) refl

  -- an entry wrong in itself is refused for that
  pub admission_own : (own ≡ 0 → ⊥) → admission l e ≡ own
  admission_own wrong = rw (admission_by, ne_eqb own 0 wrong)

  -- one right in itself is refused for what the ledger says
  pub admission_standing : own ≡ 0 → admission l e ≡ verdict (standing_checks l e)
  admission_standing right = rw (admission_by, eq-eqb own 0 right)

  -- one that is not refused is right in itself
  own_number : admission l e ≡ 0 → own ≡ 0
  own_number h = go (eqb own 0) own (verdict (standing_checks l e)) refl (sym admission_by ∙ h)
    where
      go : (t : Bool) (n m : ℕ) → eqb n 0 ≡ t → cond t m n ≡ 0 → n ≡ 0
      go true n m z q = eqb-true n 0 z
      go false n m z q = q

-- an entry right in itself, by what is asked of the ledger and the day, each test by its value
pub standing : (l : Ledger) (e x : Entry) (k : Kind) → entry_number l.is_new e ≡ 0 → x ≡ e → x.kind ≡ code k → (fits other same gone wrong : Bool)
    → fits ≡ in_range l → other ≡ not (sameb kinds.Kind.the_type k kind.Terms) → same ≡ same_date e.date l.date → gone ≡ retired l.is_new x → wrong ≡ wrong_day l.touched (held_dates l.holidays) x
    → admission l e ≡ cond (not fits) 20 (cond (not l.begun && other) 21 (cond (l.begun && not same) 22 (cond gone 36 (cond wrong 23 0))))
unfolding standing_checks verdict held_in
standing l e x k right is named fits other same gone wrong f o s g w = cc (admission_standing l e right, is_terms k)

-- a TRANSFER is retired where the ledger is new and its date is not before the day
pub is_retired : (new : Bool) (e : Admitted) → e.kind ≡ kind.Transfer → (early : Bool) → early ≡ before e.entry.date letters_alone → new && not early ≡ retired new e.entry
unfolding retired code
is_retired new e is early was = rw (eq-eqb e.entry.kind 4 (e.named ∙ ap code is)) (ap (λ (b : Bool). new && not b) was)

-- the number of an entry right in itself has none of 2 to 7
pub own_right : (new : Bool) (e : Entry) → entry_number new e ≡ 0 → field_number e ≡ 0
unfolding entry_number entry_checks field_number verdict
own_right new e z = (first (not (leb (kind_of e.kind).since (version new))) 2 (field_number e) refl z).1

module _ (l : Ledger) (e : Entry) (h : admission l e ≡ 0) where
  pub is_right : field_number e ≡ 0
  is_right = own_right l.is_new e (own_number l e h)

  pub is_real_lem : real e.date ≡ true
  is_real_lem = right.is_real_lem e is_right

  pub is_ranged : in_range l ≡ true
  unfolding admission entry_checks field_checks standing_checks
  is_ranged = not-false (in_range l) (clear _ refl h 6)

  not_begun_checked : not l.begun && not (eqb e.kind 1) ≡ false
  unfolding admission entry_checks field_checks standing_checks
  not_begun_checked = clear _ refl h 7

  -- another kind than TERMS comes to a ledger that has begun
  pub is_begun : (e.kind ≡ 1 → ⊥) → l.begun ≡ true
  is_begun n = go l.begun (rw (ne_eqb e.kind 1 n) at not_begun_checked)
    where
      go : (b : Bool) → not b && true ≡ false → b ≡ true
      go true q = refl
      go false q = sym q

  -- and, where that has begun, to its day
  pub is_today : l.begun ≡ true → same_date e.date l.date ≡ true
  unfolding admission entry_checks field_checks standing_checks
  is_today begun = not-false (same_date e.date l.date) (rw begun at (clear _ refl h 8))

  -- it is a day that the kind may have
  pub is_day : wrong_day l.touched (held_in l) e ≡ false
  unfolding admission entry_checks field_checks standing_checks
  is_day = clear _ refl h 10
