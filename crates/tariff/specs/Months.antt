-- R9, R10: a month is its own type, and every percentage is asked of it; tables begin with April, as the gas year does.
use Rattle.std.specs.Prelude.{ℕ, ◌+◌, ◌%◌, Bool, eqb, leb, [], ◌∷◌, get_or}
use Rattle.tariff.specs.Structs.{Month}

-- R9: the months that rules name, by their numbers in the calendar year.
unfoldable pub january : Month
january = record { 0 = 1 }

unfoldable pub february : Month
february = record { 0 = 2 }

unfoldable pub march : Month
march = record { 0 = 3 }

unfoldable pub april : Month
april = record { 0 = 4 }

unfoldable pub june : Month
june = record { 0 = 6 }

unfoldable pub august : Month
august = record { 0 = 8 }

unfoldable pub november : Month
november = record { 0 = 11 }

unfoldable pub december : Month
december = record { 0 = 12 }

-- R9: the same month, of whatever year.
unfoldable pub same_month : Month → Month → Bool
same_month a b = eqb a.0 b.0

-- R9: the place in the gas year: April is 0, March is 11.
unfoldable pub gas_month : Month → ℕ
gas_month m = (m.0 + 8) % 12

-- R9: the months that limit withdrawals, November (place 7) and all after it.
unfoldable pub winter : Month → Bool
winter m = leb 7 (gas_month m)

-- R10: the least bank, in percent of the BCQ.
unfoldable pub minimum : Month → ℕ
minimum m = get_or (0 ∷ 0 ∷ 14 ∷ 34 ∷ 54 ∷ 75 ∷ 88 ∷ 95 ∷ 78 ∷ 59 ∷ 36 ∷ 18 ∷ []) (gas_month m) 0

-- R10: the largest bank, in percent of the BCQ.
unfoldable pub maximum : Month → ℕ
maximum m = get_or (25 ∷ 60 ∷ 60 ∷ 60 ∷ 85 ∷ 85 ∷ 98 ∷ 98 ∷ 98 ∷ 98 ∷ 65 ∷ 45 ∷ []) (gas_month m) 0

-- R10: the most that a month's deliveries may add, in percent of the BCQ.
-- The company's later sheets print 18 for August and 9 for October; the 20 and 7 of the earlier ones hold here.
unfoldable pub mmbq : Month → ℕ
mmbq m = get_or (15 ∷ 20 ∷ 20 ∷ 20 ∷ 20 ∷ 13 ∷ 7 ∷ 5 ∷ 10 ∷ 10 ∷ 10 ∷ 10 ∷ []) (gas_month m) 0

-- R10: the most that a winter month may withdraw, in percent of the BCQ; 0 stands where no rule goes by it.
unfoldable pub withdrawal_maximum : Month → ℕ
withdrawal_maximum m = get_or (0 ∷ 0 ∷ 0 ∷ 0 ∷ 0 ∷ 0 ∷ 0 ∷ 40 ∷ 40 ∷ 40 ∷ 30 ∷ 20 ∷ []) (gas_month m) 0

-- R10: the least that February and March must withdraw, in percent of the BCQ; 0 stands where no rule goes by it.
unfoldable pub withdrawal_minimum : Month → ℕ
withdrawal_minimum m = get_or (0 ∷ 0 ∷ 0 ∷ 0 ∷ 0 ∷ 0 ∷ 0 ∷ 0 ∷ 0 ∷ 0 ∷ 10 ∷ 10 ∷ []) (gas_month m) 0
