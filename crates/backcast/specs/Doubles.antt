-- R89: which doubles are numbers, and the exact value of one.
use Rattle.std.specs.Prelude.{ℕ, ◌*◌, ℤ, pos, neg_ℤ, Bool, true, false, cond, Float}
use Rattle.backcast.specs.Vocabulary.{nan, inf, fin, up, down}

-- R89: not-a-number and the two infinities are none.
unfoldable pub is_number : Float → Bool
is_number nan = false
is_number (inf s) = false
is_number (fin s m e) = true

-- R89: the value of a number, with nothing rounded, is the fraction numerator / denominator. Both zeros have the value 0.
unfoldable pub numerator : Float → ℤ
numerator nan = pos 0
numerator (inf s) = pos 0
numerator (fin s m e) = cond s (neg_ℤ (pos (m * up e))) (pos (m * up e))

unfoldable pub denominator : Float → ℕ
denominator nan = 1
denominator (inf s) = 1
denominator (fin s m e) = down e
