-- R13, R16: the largest value of each number that has a range, named once for entries and ledgers.
use Rattle.std.specs.Prelude.{ℕ}

-- R13: of the terms, NN and DD in Dth, R in ten-thousandths; any rate or price in mills.
abbrev pub most_no_notice : ℕ
most_no_notice = 10000000

abbrev pub most_design_day : ℕ
most_design_day = 100000000

abbrev pub most_retainage : ℕ
most_retainage = 9999

abbrev pub most_rate : ℕ
most_rate = 100000

-- R13: the gas of one posting, in units.
abbrev pub most_units : ℕ
most_units = 1000000000

-- R16: a bank above zero and an overdrawn one, in units; a month's gas and the carry reach as far as a bank above zero.
abbrev pub most_bank : ℕ
most_bank = 100000000000

abbrev pub most_overdraft : ℕ
most_overdraft = 1000000000

-- R13, R16: MDQ and MDDQ, and BCQ, in Dth; the consumption of a month in Mcf.
abbrev pub most_mdq : ℕ
most_mdq = 300000

abbrev pub most_bcq : ℕ
most_bcq = 30000000

abbrev pub most_mcf : ℕ
most_mcf = 100000000

-- R16: what is owed, in mills, either way; and violation days.
abbrev pub most_owed : ℕ
most_owed = 1000000000000000

abbrev pub most_days : ℕ
most_days = 40000
