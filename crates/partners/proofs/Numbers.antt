-- The number is that of the first check that finds something wrong, so each one passed leaves the next to decide.
use Prim.Native.Nat.{ℕ, ◌<◌}
use mathlib.Core.Path.{◌≡◌, refl}
use mathlib.Core.Bool.{true, cond, not}
use lib.Dec.{leb}
use borrow.Author.Tests.{leb-false, not-false}
use Rattle.std.specs.Prelude.{Result, IsErrAnd}
use Rattle.std.proofs.lemmas.Result.{err_from_is_err_and}
use Rattle.ledger.specs.Checks.{verdict}
use Rattle.ledger.specs.Forms.{some_units}
use Rattle.ledger.specs.Ranges.{in_range}
use Rattle.ledger.specs.Refusals.{number}
use Rattle.ledger.specs.State.{account_at}
use Rattle.ledger.proofs.Refused.{refuses}
use Rattle.ledger.proofs.Verdicts.{clear, verdict_next, verdict_none}
use Rattle.arrayvec.specs.ArrayVec.{ArrayVec}
use Rattle.partners.specs.Listing.{answered, partner_checks, partners_of}
use Rattle.partners.specs.Structs.{Ledger, Partner, Refusal}

module _ (l : Ledger) (s q : ℕ) where
  pub check_by_check : verdict (partner_checks l s q)
      ≡ cond (leb 16 s) 4 (cond (not (some_units q)) 6 (cond (not (in_range l)) 20 (cond (not l.begun) 21 (cond (not (account_at l s).opened) 24 0))))
  unfolding partner_checks
  check_by_check = simp (verdict_next, verdict_none)

  -- a number of 0 tells of each check that it found nothing wrong
  module _ (h : verdict (partner_checks l s q) ≡ 0) where
    pub in_reach : s < 16
    unfolding partner_checks
    in_reach = leb-false 16 s (clear _ refl h 0)

    pub is_some : some_units q ≡ true
    unfolding partner_checks
    is_some = not-false (some_units q) (clear _ refl h 1)

    pub is_ranged : in_range l ≡ true
    unfolding partner_checks
    is_ranged = not-false (in_range l) (clear _ refl h 2)

    pub is_begun : l.begun ≡ true
    unfolding partner_checks
    is_begun = not-false l.begun (clear _ refl h 3)

    pub is_open : (account_at l s).opened ≡ true
    unfolding partner_checks
    is_open = not-false (account_at l s).opened (clear _ refl h 4)

-- a refusal is answered with its number and nobody
pub refused : (l : Ledger) (s q : ℕ) (a : Result (ArrayVec Partner) Refusal) (r : Refusal) → IsErrAnd a (λ x. x ≡ r) → verdict (partner_checks l s q) ≡ number r
    → answered a ≡ partners_of l s q
unfolding answered partners_of
refused l s q a r h e = let p = err_from_is_err_and a h in rw (p.1, p.2, e, refuses r)
