-- What a passed or failed test tells of its parts, and laws of choices: each by trying true and false.
use Prim.Native.Nat.{ℕ, ◌*◌, ◌≤◌}
use mathlib.Core.Path.{◌≡◌, refl, sym, ◌∙◌}
use mathlib.Core.Bool.{Bool, true, false, cond, ◌&&◌, ◌||◌}
use native.Mathlib.Omega.{arith}
use mir.Val.{bool_byte}
use Rattle.std.proofs.lemmas.Bool.{and_parts, or_parts}

-- std's and_parts and or_parts give both at once; a search takes one fact from a lemma, so each has its name here
pub and_left : (a b : Bool) → a && b ≡ true → a ≡ true
and_left a b h = (and_parts a b h).0

pub and_right : (a b : Bool) → a && b ≡ true → b ≡ true
and_right a b h = (and_parts a b h).1

-- what fails where only the second holds
pub and_fails : (a b : Bool) → a && b ≡ false → b ≡ true → a ≡ false
and_fails true b h e = sym e ∙ h
and_fails false b h e = refl

pub or_left : (a b : Bool) → a || b ≡ false → a ≡ false
or_left a b h = (or_parts a b h).0

pub or_right : (a b : Bool) → a || b ≡ false → b ≡ false
or_right a b h = (or_parts a b h).1

pub ruleset parts = (and_left, and_right)

-- a property of a choice, from the property of each case
pub either : {A : Type 0} (P : A → Type 0) (t : Bool) (x y : A) → (t ≡ true → P x) → (t ≡ false → P y) → P (cond t x y)
either P true x y f g = f refl
either P false x y f g = g refl

-- ---- a test as a bit

pub bit_le : (t : Bool) → bool_byte t ≤ 1
bit_le true = omega arith
bit_le false = omega arith

pub weighed : (n : ℕ) (t : Bool) → n * bool_byte t ≡ cond t n 0
weighed n true = omega arith
weighed n false = omega arith
