-- The words about doubles that definitions use and do not define; those about numbers, choices and lists are std's.
-- A Float is nan, which is no number; inf s, an infinity; or fin s m e, the number m × 2^e. Where s is true it is below zero, or −0.
-- 2^e, for an e of either sign, is the fraction up e / down e: one of the two is 1.
pub use Rattle.std.specs.Float.{nan, inf, fin, binary64}
pub use Rattle.std.specs.Float.Ieee.{up, down, sub, mul, add, lt, round, of_int}

-- IEEE 754's operations and comparison, of doubles (binary64): `sub`, `mul` and `add` round the exact result once, to the nearest double, of two
-- equally near ones to that whose last digit is even, and too large ones to an infinity. `round binary64 s a b` is the double so nearest to a / b, or
-- to −a / b where s is true, and `of_int binary64 z` the one nearest to the integer z. `lt x y` is x < y of exact values, an infinity beyond all of
-- them, and false where one of the two is nan.
