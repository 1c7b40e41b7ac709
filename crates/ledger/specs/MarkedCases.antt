-- Cases worked out in advance, as postings to an old fresh ledger: no ledger that refuses everything, or reports nothing, meets them.
-- Of all but a month's closing a new one makes the same (R84).
use Rattle.std.specs.Prelude.{ℕ, zero, suc, ◌+◌, ◌/◌, ◌%◌, ℤ, pos, negsuc, false, List, [], ◌∷◌, ◌++◌, get_or, ◌≡◌}
use Rattle.ledger.specs.Structs.{Report}
use Rattle.ledger.specs.Answers.{quiet}
use Rattle.ledger.specs.State.{fresh, account_at}
use Rattle.ledger.specs.Posting.{posted}
use Rattle.ledger.specs.Panel.{bank_of}
use Rattle.ledger.specs.Running.{run}

-- ---- postings of April 2026, in bytes

-- R11: four bytes, the lowest first.
abbrev pub word : ℕ → List ℕ
word n = n % 256 ∷ n / 256 % 256 ∷ n / 65536 % 256 ∷ n / 16777216 % 256 ∷ []

-- R11: an entry of account 0 on a day of April 2026.
abbrev pub posting : ℕ → ℕ → ℕ → ℕ → ℕ → ℕ → ℕ → ℕ → ℕ → List ℕ
posting kind flags day w1 w2 w3 w4 w5 w6 =
    kind ∷ 0 ∷ 0 ∷ flags ∷ 234 ∷ 7 ∷ 4 ∷ day ∷ word w1 ++ word w2 ++ word w3 ++ word w4 ++ word w5 ++ word w6

-- R67: the terms of all examples, with rates of 0 so that a bill shows one part alone.
abbrev pub terms : List ℕ
terms = posting 1 0 1 120000 480000 5000400 150 0 0

-- R12: entries of the other kinds, from the fields that they use.
abbrev pub enrol : ℕ → ℕ → ℕ → List ℕ
enrol flags mdq opening = posting 2 flags 1 mdq opening 0 0 0 0

abbrev pub deliver : ℕ → ℕ → ℕ → List ℕ
deliver day delivered back_cast = posting 3 0 day delivered back_cast 0 0 0 0

abbrev pub measure : ℕ → ℕ → List ℕ
measure day mdq = posting 6 0 day mdq 0 0 0 0 0

abbrev pub usage : ℕ → ℕ → List ℕ
usage day mcf = posting 7 0 day mcf 0 0 0 0 0

abbrev pub close_day : ℕ → List ℕ
close_day day = posting 8 0 day 0 0 0 0 0 0

abbrev pub close_month : ℕ → ℕ → ℕ → ℕ → List ℕ
close_month w h l e = posting 9 0 30 w h l e 0 0

-- R43: so many days from a day on, on which nothing is brought or needed; even these must be delivered and closed.
abbrev pub quiet_days : ℕ → ℕ → List (List ℕ)
quiet_days day zero = []
quiet_days day (suc n) = deliver day 0 0 ∷ close_day day ∷ quiet_days (day + 1) n

-- ---- what is asked of them

-- R61: the number that a posting gets after others.
abbrev pub number_after : List (List ℕ) → List ℕ → ℕ
number_after before b = (posted (run (fresh false) before) b).answer.number

-- R61: what it reports of account 0.
abbrev pub report_after : List (List ℕ) → List ℕ → Report
report_after before b = get_or (posted (run (fresh false) before) b).answer.reports 0 quiet

-- R67: the terms, and account 0 with MDQ 4,200 and an opening.
abbrev pub begun : ℕ → List (List ℕ)
begun opening = terms ∷ enrol 2 4200 opening ∷ []

-- R31: the bank after a delivery on the first day, which is its amount.
abbrev pub bank_by : ℕ → ℕ → ℤ
bank_by delivered back_cast = bank_of (run (fresh false) (begun 0 ++ deliver 1 delivered back_cast ∷ [])) 0

-- R8: April 2026 up to its measurement day.
abbrev pub up_to_the27th : List (List ℕ)
up_to_the27th = begun 0 ++ quiet_days 1 26

-- R39: the step that waits for the month's end after a measurement.
abbrev pub pending_by : ℕ → ℕ
pending_by mdq = (account_at (run (fresh false) (up_to_the27th ++ measure 27 mdq ∷ [])) 0).step.pending

-- R34: the mask after 1,562,625 in bank, a delivery on the first day, and 130,000 withdrawn on the second: below 100 percent of the MDDQ,
-- above 80.
abbrev pub withdrawn_at : ℕ → ℕ
withdrawn_at delivered =
    (report_after (begun 1562625 ++ deliver 1 delivered 0 ∷ close_day 1 ∷ deliver 2 0 131980 ∷ []) (close_day 2)).mask

-- R54: an April whose first day overdraws 1,000 units and whose bill is that cash-in alone, up to its last closing.
abbrev pub overdrawn_april : List (List ℕ)
overdrawn_april =
    begun 0 ++ deliver 1 0 1016 ∷ close_day 1 ∷ quiet_days 2 25 ++ measure 27 4200 ∷ usage 27 0 ∷ quiet_days 27 3 ++ deliver 30 0 0 ∷ []

-- R67: the cases.
pub record MarkedCases : Type 0 where
  -- R25 and R26: the step of MDQ 4,200, with its MDDQ and BCQ.
  pub header :
      ((account_at (run (fresh false) (begun 0)) 0).step.k ≡ 2)
      × ((account_at (run (fresh false) (begun 0)) 0).capacity.mddq.0 ≡ 1500)
      × ((account_at (run (fresh false) (begun 0)) 0).capacity.bcq.0 ≡ 62505)
  -- R31: amounts are rounded toward zero on both sides of it.
  pub case1 : (bank_by 1000 0 ≡ pos 985) × (bank_by 1 0 ≡ pos 0) × (bank_by 0 1 ≡ pos 0) × (bank_by 0 1001 ≡ negsuc 984)
  -- R32: the last injection that keeps V1, and the first that breaks it.
  pub case2 :
      (bank_by 38075 0 ≡ pos 37503)
      × ((report_after (begun 0 ++ deliver 1 38075 0 ∷ []) (close_day 1)).mask ≡ 0)
      × (bank_by 38076 0 ≡ pos 37504)
      × ((report_after (begun 0 ++ deliver 1 38076 0 ∷ []) (close_day 1)).mask ≡ 1)
  -- R29: the largest opening, and one unit more.
  pub case3 : (number_after (terms ∷ []) (enrol 2 4200 1562625) ≡ 0) × (number_after (terms ∷ []) (enrol 2 4200 1562626) ≡ 28)
  -- R33: from a bank at 30 percent of the BCQ the withdrawal keeps V2; one unit below it does not.
  pub case4 :
      (bank_of (run (fresh false) (begun 1562625 ++ deliver 1 317285 0 ∷ close_day 1 ∷ [])) 0 ≡ pos 1875150)
      × (withdrawn_at 317285 ≡ 0)
      × (bank_of (run (fresh false) (begun 1562625 ++ deliver 1 317284 0 ∷ close_day 1 ∷ [])) 0 ≡ pos 1875149)
      × (withdrawn_at 317284 ≡ 2)
  -- R28: the two bounds between which the wish decides.
  pub case5 :
      (number_after (terms ∷ []) (enrol 2 999 0) ≡ 25)
      × (number_after (terms ∷ []) (enrol 2 1000 0) ≡ 0)
      × (number_after (terms ∷ []) (enrol 0 5999 0) ≡ 25)
      × (number_after (terms ∷ []) (enrol 0 6000 0) ≡ 0)
  -- R39: 500 Dth beyond the step's edge move it at once, either way; one Dth less does not, nor does the edge itself.
  pub case6 : (pending_by 6500 ≡ 3) × (pending_by 6499 ≡ 2) × (pending_by 2500 ≡ 1) × (pending_by 3000 ≡ 2)
  -- R52: the smallest overdraft in a month whose minimum is 0.
  pub case7 : (bank_by 0 2 ≡ negsuc 0) × ((report_after (begun 0 ++ deliver 1 0 2 ∷ []) (close_day 1)).cash.0 ≡ pos 1)
  -- R54: cash-ins cost 110 percent of the higher price.
  pub case8 : (bank_by 0 1016 ≡ negsuc 999) × ((report_after overdrawn_april (close_month 3000 3000 0 100)).bill.0 ≡ pos 34100)
  -- R8: the 25th is a Saturday, so the Monday is right and the Friday wrong.
  pub case9 : (number_after up_to_the27th (measure 27 4200) ≡ 0) × (number_after (begun 0 ++ quiet_days 1 23) (measure 24 4200) ≡ 23)
  -- R59: a day on which nothing is broken reports nothing, so no cash is made up.
  pub quiet_day : report_after (begun 1000 ++ deliver 1 0 0 ∷ []) (close_day 1) ≡ quiet
  -- R52: nor is any left out: a bank 4,925,000 above April's maximum, and above 102 percent, loses just that, with V1, V3 and V8.
  pub overfull :
      report_after (begun 1562625 ++ deliver 1 5000000 0 ∷ []) (close_day 1)
      ≡ record { mask = 133; cash = record { 0 = negsuc 4924999 }; forfeit = record { 0 = 0 }; bill = record { 0 = pos 0 } }
