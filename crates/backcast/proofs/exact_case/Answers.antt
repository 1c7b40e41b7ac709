-- Below 2^53 the load of whole numbers is the integers' load, so that asking whether it is a quantity, and for its whole part, asks it of that.
use Prim.Native.Nat.{ℕ, ◌/◌, ◌≤◌}
use native.Mathlib.Nat.{mul-div_cancel, zero-mul}
use native.Mathlib.Omega.{arith}
use mathlib.Core.Bool.{Bool, true, false, cond, ◌&&◌}
use mathlib.Core.Path.{◌≡◌, refl, sym, ap, ◌∙◌}
use lib.Dec.{lit≤}
use lib.IntN.{ℤ, pos, negsuc, nat_abs, ◌+ℤ◌, ◌-ℤ◌, ◌*ℤ◌}
use lib.Signed.{le_z, lt_z}
use lib.Ieee as Ieee
use lib.Ieee.{Float, binary64}
use borrow.Author.Tests.{le-leb, le-ltb}
use Rattle.tariff.proofs.Signed.{size_product}
use Rattle.backcast.specs.Answers.{accepted, back_cast, is_quantity, refused, whole_part}
use Rattle.backcast.specs.Doubles.{denominator}
use Rattle.backcast.specs.ExactCase.{Exact, IsWhole, WholeNumbersAreDoubles, WholeNumbersAreExact, exact_load}
use Rattle.backcast.specs.Load.{all_numbers, load_of}
use Rattle.backcast.specs.Structs.{LoadCurve}
use Rattle.backcast.proofs.Orders.{le_z_times}
use Rattle.backcast.proofs.Values.{denominator_pos}
use Rattle.backcast.proofs.WholeDoubles.{below_whole, difference_whole, integer, product_whole, sum_whole, widen}
use Rattle.backcast.proofs.exact_case.Goals as goal

module _ (curve : LoadCurve) (f : Float) (base slope turning at : ℤ)
    (b : IsWhole curve.base base 100000000) (s : IsWhole curve.slope slope 10000) (t : IsWhole curve.turning turning 10000) (a : IsWhole f at 10000) where
  load_whole : IsWhole (load_of curve f) (exact_load base slope turning at) 300000000
  unfolding load_of exact_load
  load_whole = rw (below_whole 10000 10000 f curve.turning at turning a t) (go (lt_z at turning))
    where
      go : (cold : Bool) → IsWhole (cond cold (Ieee.add binary64 curve.base (Ieee.mul binary64 curve.slope (Ieee.sub binary64 curve.turning f))) curve.base)
          (cond cold (base +ℤ slope *ℤ (turning -ℤ at)) base) 300000000
      go true =
          sum_whole 100000000 200000000 curve.base (Ieee.mul binary64 curve.slope (Ieee.sub binary64 curve.turning f)) base (slope *ℤ (turning -ℤ at)) b
          (product_whole 10000 20000 curve.slope (Ieee.sub binary64 curve.turning f) slope (turning -ℤ at) s
          (difference_whole 10000 10000 curve.turning f turning at t a (lit≤ tt)) (lit≤ tt)) (lit≤ tt)
      go false = widen (lit≤ tt) b

  all_numbers_lem : all_numbers curve f ≡ true
  unfolding all_numbers
  all_numbers_lem = rw (b.is_number, s.is_number, t.is_number, a.is_number)

-- a whole load
module _ (x : Float) (z : ℤ) (N : ℕ) (w : IsWhole x z N) where
  quantity_of : is_quantity x ≡ le_z (pos 0) z && le_z z (pos 1000000000)
  unfolding is_quantity
  quantity_of =
      let d = denominator x in
      let low : le_z (pos 0) (z *ℤ pos d) ≡ le_z (pos 0) z
      = ap (λ (k : ℕ). le_z (pos k) (z *ℤ pos d)) (sym (zero-mul d)) ∙ le_z_times (pos 0) z d (denominator_pos x) in
      rw (w.is_number, w.value, low, le_z_times z (pos 1000000000) d (denominator_pos x))

  whole_of : whole_part x ≡ nat_abs z
  unfolding whole_part
  whole_of = ap (λ (n : ℕ). n / denominator x) (ap nat_abs w.value ∙ size_product z (pos (denominator x))) ∙ mul-div_cancel (nat_abs z) (denominator_pos x)

-- the answer to an integer that is not too large
answer : (z : ℤ) → nat_abs z ≤ 300000000 → Exact (cond (le_z (pos 0) z && le_z z (pos 1000000000)) (accepted (nat_abs z)) (refused 32)) z
unfolding accepted refused
answer (pos n) h =
    let low = le-leb 0 n (omega arith) in
    let high = le-leb n 1000000000 (omega arith) in
    let not_below = le-ltb n 0 (omega arith) in
    record { equal = rw (low, high) (λ e. refl); refused_outside = rw (low, high); refused_below = rw (low, high, not_below) }
answer (negsuc n) h = record { equal = λ e. absurd (let no : 32 ≡ 0 = e in omega arith); refused_outside = refl; refused_below = refl }

exact : WholeNumbersAreExact
unfolding back_cast
exact curve f base slope turning at b s t a =
    let w = load_whole curve f base slope turning at b s t a in
    let x = load_of curve f in
    let z = exact_load base slope turning at in
    rw (all_numbers_lem curve f base slope turning at b s t a, quantity_of x z 300000000 w, whole_of x z 300000000 w) (answer z w.bounded)

doubles : WholeNumbersAreDoubles
doubles z most h k = widen h (integer z (omega arith))

pub returns-clause-doubles : goal.returns-clause-doubles
returns-clause-doubles c = doubles

pub returns-clause-exact : goal.returns-clause-exact
returns-clause-exact c = exact
