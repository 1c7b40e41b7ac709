-- The laws of the amounts that the layers above go by: what each definition makes of the numbers, so that none of them opens a definition.
use Prim.Native.Nat.{ℕ, ◌+◌, ◌≤◌, min}
use mathlib.Core.Path.{◌≡◌, refl}
use mathlib.Core.Bool.{Bool, true, cond, ◌&&◌}
use native.Mathlib.Omega.{arith}
use lib.Dec.{eqb}
use lib.Signed.{le_z}
use borrow.Author.Tests.{eq-eqb, eqb-true}
use lib.IntN.{ℤ, pos, ◌+ℤ◌, ◌-ℤ◌, neg_ℤ}
use Rattle.std.proofs.lemmas.Int.{ints}
use Rattle.tariff.specs.Amounts.{nothing, amount_of, sum, more, less, opposite, positive_part, inward, outward, within, size, together, no_money, added, within_mills, size_mills}
use Rattle.tariff.specs.Dates.{same_date}
use Rattle.tariff.specs.Months.{same_month}
use Rattle.tariff.specs.Structs.{Date, Mills, Quantity, Step, Units}
use Rattle.tariff.specs.Closing.{forfeit_under}
use Rattle.tariff.specs.Steps.{settled_step}
use Rattle.tariff.proofs.Bools.{and_left, and_right}
use Rattle.tariff.proofs.Signed.{size_between}

-- ---- numbers

pub nothing_value : nothing.0 ≡ pos 0
unfolding nothing
nothing_value = refl

-- what `Mills::default()` gives
pub no_money_value : no_money.0 ≡ pos 0
unfolding no_money
no_money_value = refl

pub amount_value : (q : Quantity) → (amount_of q).0 ≡ pos q.0
unfolding amount_of
amount_value q = refl

pub sum_value : (a b : Units) → (sum a b).0 ≡ a.0 +ℤ b.0
unfolding sum
sum_value a b = refl

pub more_value : (a : Units) (q : Quantity) → (more a q).0 ≡ a.0 +ℤ pos q.0
unfolding more
more_value a q = refl

pub less_value : (a : Units) (q : Quantity) → (less a q).0 ≡ a.0 -ℤ pos q.0
unfolding less
less_value a q = refl

pub forfeit_value : (new : Bool) (confiscated excess : Quantity) → (forfeit_under new confiscated excess).0 ≡ cond new (min confiscated.0 excess.0) excess.0
unfolding forfeit_under
forfeit_value new confiscated excess = refl

pub together_value : (a b : Quantity) → (together a b).0 ≡ a.0 + b.0
unfolding together
together_value a b = refl

pub added_value : (a b : Mills) → (added a b).0 ≡ a.0 +ℤ b.0
unfolding added
added_value a b = refl

-- an amount is what it brings in less what it takes out
parts : (z : ℤ) → z ≡ pos (positive_part z) -ℤ pos (positive_part (neg_ℤ z))
unfolding positive_part
parts z = grind (arith, ints)

pub in_and_out : (a : Units) → a.0 ≡ pos (inward a).0 -ℤ pos (outward a).0
unfolding inward outward opposite
in_and_out a = parts a.0

-- ---- sizes

pub within_size : (low high : ℕ) (a : Units) → within low high a ≡ true → low ≤ high → size a ≤ high
unfolding within size
within_size low high a h l = size_between low high a.0 h l

pub within_mills_size : (n : ℕ) (m : Mills) → within_mills n m ≡ true → size_mills m ≤ n
unfolding within_mills size_mills
within_mills_size n m h = size_between n n m.0 h (omega arith)

-- ---- nothing

pub inward_zero : (a : Units) → a.0 ≡ pos 0 → (inward a).0 ≡ 0
unfolding inward positive_part
inward_zero a h = rw h

pub outward_zero : (a : Units) → a.0 ≡ pos 0 → (outward a).0 ≡ 0
unfolding outward inward opposite positive_part
outward_zero a h = rw h

zero_between : (low high : ℕ) → le_z (neg_ℤ (pos low)) (pos 0) && le_z (pos 0) (pos high) ≡ true
zero_between low high = grind (arith, ints)

pub within_zero : (low high : ℕ) (a : Units) → a.0 ≡ pos 0 → within low high a ≡ true
unfolding within
within_zero low high a h = rw h (zero_between low high)

pub within_mills_zero : (n : ℕ) (m : Mills) → m.0 ≡ pos 0 → within_mills n m ≡ true
unfolding within_mills
within_mills_zero n m h = rw h (zero_between n n)

-- ---- dates

pub same_date_lem : (d : Date) → same_date d d ≡ true
unfolding same_date same_month
same_date_lem d = rw (eq-eqb d.year d.year refl, eq-eqb d.month.0 d.month.0 refl, eq-eqb d.day d.day refl)

pub same_date_is : (a b : Date) → same_date a b ≡ true → a ≡ b
unfolding same_date same_month
same_date_is a b h =
    let both = and_left (eqb a.year b.year && eqb a.month.0 b.month.0) (eqb a.day b.day) h in
    let year = eqb-true a.year b.year (and_left (eqb a.year b.year) (eqb a.month.0 b.month.0) both) in
    let month = eqb-true a.month.0 b.month.0 (and_right (eqb a.year b.year) (eqb a.month.0 b.month.0) both) in
    let day = eqb-true a.day b.day (and_right (eqb a.year b.year && eqb a.month.0 b.month.0) (eqb a.day b.day) h) in
    λ i. record { year = year i; month = record { 0 = month i }; day = day i }

-- ---- steps

pub settled_k : (s : Step) → (settled_step s).k ≡ s.pending
unfolding settled_step
settled_k s = refl
