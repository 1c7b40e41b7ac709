-- An array in a struct is as long as its owner tells, which speaks of its elements in another form.
use Prim.Native.Nat.{ℕ}
use mathlib.Core.Path.{◌≡◌, sym, ◌∙◌}
use mathlib.Core.List.{List, map}
use lib.ListN.{length, length-map}

pub length_mapped : (A B : Type 0) (f : A → B) (l : List A) (n : ℕ) → length (map f l) ≡ n → length l ≡ n
length_mapped A B f l n e = sym (length-map l f) ∙ e
