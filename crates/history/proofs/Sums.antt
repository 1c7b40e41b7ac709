-- A sum of nine terms may be taken term by term, line by line or account by account: addition of signed numbers does not mind the order.
use Prim.Native.Nat.{ℕ, zero, suc, ◌<◌}
use mathlib.Core.Path.{◌≡◌, refl, sym, ap, ◌∙◌}
use mathlib.Core.Bool.{Bool, true, false, cond}
use mathlib.Core.List.{List, [], ◌∷◌}
use native.Mathlib.Omega.{arith}
use lib.Dec.{eqb, ltb}
use lib.IntN.{ℤ, pos, ◌+ℤ◌, ◌-ℤ◌, +ℤ_idl, +ℤ_idr, +ℤ_assoc, +ℤ_comm, neg_ℤ-+ℤ}
use lib.ListN.{length, get_or}
use borrow.Author.Tests.{eqb-true, eqb-false, ltb-true, ltb-false, lt-ltb, le-ltb}
use Rattle.ledger.specs.State.{nobody}
use Rattle.ledger.specs.Panel.{open_bank, open_banks}
use Rattle.ledger.specs.Running.{Line}
use Rattle.ledger.specs.declared.state.Account.{Account}
use Rattle.ledger.proofs.Figures.{no_banks, one_bank_more}
use Rattle.history.specs.History.{Known, after, Term, total, over_first}

swap : (a b c : ℤ) → a +ℤ (b +ℤ c) ≡ b +ℤ (a +ℤ c)
swap a b c = sym (+ℤ_assoc a b c) ∙ ap (λ (z : ℤ). z +ℤ c) (+ℤ_comm a b) ∙ +ℤ_assoc b a c

-- sums in one order, the signs inside
ruleset sorted = (neg_ℤ-+ℤ, +ℤ_assoc, swap, +ℤ_comm)

-- ---- the nine terms of a bank, as one sum

abbrev pub chain : ℤ → ℤ → ℤ → ℤ → ℤ → ℤ → ℤ → ℤ → ℤ → ℤ
chain o d s p ti to ci co f = o +ℤ d +ℤ s -ℤ p +ℤ ti -ℤ to +ℤ ci -ℤ co -ℤ f

-- term by term, or line by line
pub total_chain : (o d s p ti to ci co f : Term) (k : Known) (xs : List Line)
    → total (λ k x. chain (o k x) (d k x) (s k x) (p k x) (ti k x) (to k x) (ci k x) (co k x) (f k x)) k xs
    ≡ chain (total o k xs) (total d k xs) (total s k xs) (total p k xs) (total ti k xs) (total to k xs) (total ci k xs) (total co k xs) (total f k xs)
unfolding total
total_chain o d s p ti to ci co f k [] = refl
total_chain o d s p ti to ci co f k (x ∷ xs) = rw (total_chain o d s p ti to ci co f (after k x) xs) (simp sorted)

-- ---- sums over the first n accounts

pub over_cong : (n : ℕ) (f g : ℕ → ℤ) → ((i : ℕ) → f i ≡ g i) → over_first n f ≡ over_first n g
unfolding over_first
over_cong zero f g h = refl
over_cong (suc n) f g h = rw (over_cong n f g h, h n)

pub over_add : (n : ℕ) (f g : ℕ → ℤ) → over_first n (λ i. f i +ℤ g i) ≡ over_first n f +ℤ over_first n g
unfolding over_first
over_add zero f g = refl
over_add (suc n) f g = rw (over_add n f g) (simp sorted)

pub over_chain : (n : ℕ) (o d s p ti to ci co f : ℕ → ℤ)
    → over_first n (λ i. chain (o i) (d i) (s i) (p i) (ti i) (to i) (ci i) (co i) (f i))
    ≡ chain (over_first n o) (over_first n d) (over_first n s) (over_first n p) (over_first n ti) (over_first n to) (over_first n ci) (over_first n co) (over_first n f)
unfolding over_first
over_chain zero o d s p ti to ci co f = refl
over_chain (suc n) o d s p ti to ci co f = rw (over_chain n o d s p ti to ci co f) (simp sorted)

-- an amount that one account has
only_first : (n a : ℕ) (w : ℤ) → over_first n (λ i. cond (eqb a i) w (pos 0)) ≡ cond (ltb a n) w (pos 0)
unfolding over_first
only_first zero a w = rw (le-ltb a 0 (omega arith))
only_first (suc n) a w = ap (λ (z : ℤ). z +ℤ cond (eqb a n) w (pos 0)) (only_first n a w) ∙ go (eqb a n) (ltb a n) (ltb a (suc n)) refl refl refl
  where
    go : (t u v : Bool) → eqb a n ≡ t → ltb a n ≡ u → ltb a (suc n) ≡ v → cond u w (pos 0) +ℤ cond t w (pos 0) ≡ cond v w (pos 0)
    go true true v p q r = absurd (omega (arith, eqb-true a n p, ltb-true a n q))
    go true false true p q r = +ℤ_idl w
    go true false false p q r = absurd (omega (arith, eqb-true a n p, ltb-false a (suc n) r))
    go false true true p q r = +ℤ_idr w
    go false true false p q r = absurd (omega (arith, ltb-true a n q, ltb-false a (suc n) r))
    go false false true p q r = absurd (omega (arith, eqb-false a n p, ltb-false a n q, ltb-true a (suc n) r))
    go false false false p q r = refl

pub only_one : (a : ℕ) (w : ℤ) → a < 16 → over_first 16 (λ i. cond (eqb a i) w (pos 0)) ≡ w
only_one a w h = only_first 16 a w ∙ rw (lt-ltb a 16 h)

-- the open banks, from the first account on or up to the last
from_first : (n : ℕ) (f : ℕ → ℤ) → over_first (suc n) (λ i. f i) ≡ f 0 +ℤ over_first n (λ i. f (suc i))
unfolding over_first
from_first zero f = +ℤ_comm (pos 0) (f 0)
from_first (suc n) f = rw (from_first n f) (+ℤ_assoc (f 0) (over_first n (λ i. f (suc i))) (f (suc n)))

pub banks_over : (xs : List Account) → open_banks xs ≡ over_first (length xs) (λ i. open_bank (get_or xs i nobody))
unfolding over_first
banks_over [] = no_banks
banks_over (y ∷ ys) = one_bank_more y ys ∙ rw (banks_over ys) (sym (from_first (length ys) (λ i. open_bank (get_or (y ∷ ys) i nobody))))
