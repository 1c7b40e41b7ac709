-- An admitted TRANSFER or NOTICE names two accounts that exist, and each is in range; so either bank can take the units.
use Prim.Native.Nat.{◌<◌, ◌≤◌}
use mathlib.Core.Bool.{true}
use mathlib.Core.Path.{◌≡◌, ◌∙◌, ap}
use native.Mathlib.Omega.{arith}
use lib.ListN.{length}
use borrow.Author.Tests.{lt-ltb}
use Rattle.ledger.proofs.RightEntries.{a_fits, b_fits, notice_fits, notice_units, transfer_fits}
use Rattle.ledger.proofs.Admissions.{is_ranged}
use Rattle.ledger.proofs.Bounded.{account_ranged}
use Rattle.ledger.specs.Kinds.{NOTICE, TRANSFER, code, kind_of, lookup}
use Rattle.ledger.specs.Notice.{written}
use Rattle.ledger.specs.Posting.{admission}
use Rattle.ledger.specs.Ranges.{account_in_range, notice_in_range}
use Rattle.ledger.specs.State.{account_at}
use Rattle.ledger.specs.Structs.{Entry, Ledger}
use Rattle.ledger.specs.declared.admitted.Admitted.{Admitted}
use Rattle.ledger.specs.declared.kinds.Kind.TheVariants as kind

pub record Pair (l : Ledger) (e : Entry) : Type 0 where
  pub a : e.a < 16
  pub b : e.b < 16
  pub apart : e.a ≡ e.b → ⊥
  pub fits : e.w1 ≤ 1000000000
  pub writes : account_in_range (account_at l e.a) ≡ true
  pub named : account_in_range (account_at l e.b) ≡ true

pair : (l : Ledger) (e : Admitted) → length l.accounts ≡ 16 → admission l e.entry ≡ 0 → (kind_of e.entry.kind).accounts ≡ 2 → (e.entry.w1 ≤ 1000000000) × (e.entry.a ≡ e.entry.b → ⊥) → Pair l e.entry
pair l e n z two fits =
    let i : e.entry.a < 16 = a_fits e.entry e.right (omega arith) in
    let j : e.entry.b < 16 = b_fits e.entry e.right (omega arith) in
    record {
      a = i;
      b = j;
      apart = fits.1;
      fits = fits.0;
      writes = account_ranged l e.entry.a n i (is_ranged l e.entry z);
      named = account_ranged l e.entry.b n j (is_ranged l e.entry z);
    }

pub transfer : (l : Ledger) (e : Admitted) → length l.accounts ≡ 16 → admission l e.entry ≡ 0 → e.kind ≡ kind.Transfer → Pair l e.entry
unfolding code kind_of lookup
transfer l e n z is =
    let named : e.entry.kind ≡ TRANSFER = e.named ∙ ap code is in
    pair l e n z (rw named) (transfer_fits e.entry e.right named)

pub notice : (l : Ledger) (e : Admitted) → length l.accounts ≡ 16 → admission l e.entry ≡ 0 → e.kind ≡ kind.Notice → Pair l e.entry
unfolding code kind_of lookup
notice l e n z is =
    let named : e.entry.kind ≡ NOTICE = e.named ∙ ap code is in
    pair l e n z (rw named) (notice_fits e.entry e.right named)

-- the notice that its letter would leave is in range
pub written_ranged : (l : Ledger) (e : Admitted) → length l.accounts ≡ 16 → admission l e.entry ≡ 0 → e.kind ≡ kind.Notice → notice_in_range (written e.entry) ≡ true
unfolding code written notice_in_range
written_ranged l e n z is =
    let p = notice l e n z is in
    rw (lt-ltb e.entry.b 16 p.b) (notice_units e.entry e.right (e.named ∙ ap code is))
