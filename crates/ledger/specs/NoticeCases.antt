-- Cases of letters, worked out in advance: no ledger that moves gas by one letter, takes any letter for a counterpart, or keeps one overnight meets them.
use Rattle.std.specs.Prelude.{ℕ, ◌/◌, ◌%◌, pos, Bool, true, false, List, [], ◌∷◌, ◌++◌, replicate, ◌≡◌}
use Rattle.ledger.specs.Structs.{Account, Date, Ledger, Notice}
use Rattle.tariff.specs.Holidays.{date_of, stored_dates}
use Rattle.tariff.specs.Terms.{terms_from}
use Rattle.ledger.specs.State.{account, account_at, fresh, ledger, no_notice, no_totals, nobody, notice, with_account, with_notice}
use Rattle.ledger.specs.Posting.{posted}
use Rattle.ledger.specs.Panel.{bank_of}
use Rattle.ledger.specs.Running.{run}
use Rattle.ledger.specs.MarkedCases.{terms, word}

-- ---- notices, and accounts of which they stand

-- R108: a notice that gives so much to account j, and one that takes so much from it.
abbrev pub gives_to : ℕ → ℕ → Notice
gives_to j units = notice true false j units

abbrev pub takes_from : ℕ → ℕ → Notice
takes_from j units = notice true true j units

-- R111: none stands, but the members that then mean nothing hold something.
abbrev pub leftover : ℕ → ℕ → Notice
leftover j units = notice false true j units

-- R16: an open account with a BCQ, a notice and a bank. It has its measurement and its consumption; `delivered` says whether it has its delivery too,
-- without which no day closes (R43).
abbrev pub holder : Bool → ℕ → Notice → ℕ → Account
holder delivered bcq n bank =
    account true false (record { delivered = delivered; v1 = false; v2 = false; confiscated = false; confiscation = record { 0 = 0 }; notice = n })
    (record { 0 = pos bank }) (record { 0 = 4200 }) (record { k = 2; pending = 2; over = 0; under = 0 })
    (record { mddq = record { 0 = 1500 }; bcq = record { 0 = bcq } }) (record { totals = no_totals; measured = true; metered = true })
    (record { 0 = 0 }) (record { 0 = pos 0 }) 0

-- R67: one with a BCQ of 62,505 Dth. By it a bank has to lie between 875,070 and 3,750,300 units in June, between 1,125,090 and 2,812,725 in March, and
-- between 0 and 1,562,625 in April (R36).
abbrev pub supplier : Notice → ℕ → Account
supplier n bank = holder true 62505 n bank

-- ---- days

-- R8: two days in the middle of June 2027, and the day that ends the month.
abbrev pub mid_june : Date
mid_june = date_of 2027 (record { 0 = 6 }) 15

abbrev pub next_morning : Date
next_morning = date_of 2027 (record { 0 = 6 }) 16

abbrev pub june_ends : Date
june_ends = date_of 2027 (record { 0 = 6 }) 30

-- R112: the last day of transfers in new ledgers, and the first day without; one in a later month of the year before, and one in an earlier month of the
-- year after.
abbrev pub last_day : Date
last_day = date_of 2027 (record { 0 = 3 }) 31

abbrev pub first_day : Date
first_day = date_of 2027 (record { 0 = 4 }) 1

abbrev pub year_before : Date
year_before = date_of 2026 (record { 0 = 6 }) 15

abbrev pub year_after : Date
year_after = date_of 2028 (record { 0 = 3 }) 1

-- R27: a day on which TERMS may come.
abbrev pub april_2026 : Date
april_2026 = date_of 2026 (record { 0 = 4 }) 1

-- ---- ledgers

-- R67: a ledger under the terms of all examples, old or new, at a date, in which only three accounts are told; `touched` says whether anything was accepted
-- on that day.
abbrev pub around : Bool → Bool → Date → Account → Account → Account → Ledger
around touched new today a b c =
    ledger true touched new today (terms_from 120000 480000 5000400 150 0 0) (stored_dates []) (a ∷ b ∷ c ∷ replicate 13 nobody)

abbrev pub in_june : Account → Account → Account → Ledger
in_june a b c = around true true mid_june a b c

-- R110: three suppliers with gas to give and room for more: with their notices, with none, and with other banks.
abbrev pub three : Notice → Notice → Notice → Ledger
three m n o = in_june (supplier m 2000000) (supplier n 1000000) (supplier o 3000000)

abbrev pub silent : Ledger
silent = three no_notice no_notice no_notice

abbrev pub with_banks : ℕ → ℕ → ℕ → Ledger
with_banks m n o = in_june (supplier no_notice m) (supplier no_notice n) (supplier no_notice o)

-- R111: three notices that stand, in an old ledger or a new one.
abbrev pub three_waiting : Bool → Date → Ledger
three_waiting new today =
    around true new today (supplier (gives_to 1 10000) 2000000) (supplier (takes_from 2 500) 1000000) (supplier (takes_from 15 1) 3000000)

-- R112: two suppliers without a notice, in an old ledger or a new one; in the second pair of banks 10,000 units have gone from 0 to 1.
abbrev pub two : Bool → Date → ℕ → ℕ → Ledger
two new today m n = around true new today (supplier no_notice m) (supplier no_notice n) nobody

abbrev pub unmoved : Bool → Date → Ledger
unmoved new today = two new today 1500000 1200000

abbrev pub moved : Bool → Date → Ledger
moved new today = two new today 1490000 1210000

-- R111: two accounts that are not open, and hold something of a notice.
abbrev pub newcomers : Ledger
newcomers = around true true first_day (supplier no_notice 1500000) (with_notice nobody (gives_to 0 500)) (with_notice nobody (leftover 20 0))

-- R111: a ledger that has not begun, with a notice out of range.
abbrev pub damaged : Ledger
damaged = with_account (fresh true) 0 (with_notice nobody (gives_to 16 1))

-- R27: one on which nothing was accepted yet, with the notice of account 1.
abbrev pub untouched : Notice → Ledger
untouched n = around false true april_2026 (supplier no_notice 1500000) (supplier n 1200000) nobody

-- ---- postings to them

-- R11: an entry of two accounts, with a flag, a date and two words.
abbrev pub entry : ℕ → ℕ → ℕ → ℕ → Date → ℕ → ℕ → List ℕ
entry kind i j flags d w1 w2 =
    kind ∷ i ∷ j ∷ flags ∷ d.year % 256 ∷ d.year / 256 % 256 ∷ d.month.0 ∷ d.day ∷ word w1 ++ word w2 ++ replicate 16 0

-- R108: the letter in which i gives so much to j, and that in which i takes so much from j; both of them in June.
abbrev pub giving_on : Date → ℕ → ℕ → ℕ → List ℕ
giving_on d i j units = entry 12 i j 0 d units 0

abbrev pub taking_on : Date → ℕ → ℕ → ℕ → List ℕ
taking_on d i j units = entry 12 i j 1 d units 0

abbrev pub gives : ℕ → ℕ → ℕ → List ℕ
gives i j units = giving_on mid_june i j units

abbrev pub takes : ℕ → ℕ → ℕ → List ℕ
takes i j units = taking_on mid_june i j units

-- R37: a TRANSFER from i to j.
abbrev pub transfer : Date → ℕ → ℕ → ℕ → List ℕ
transfer d i j units = entry 4 i j 0 d units units

-- R30: an account with MDQ 6,000 and an empty bank.
abbrev pub enrol : ℕ → List ℕ
enrol i = entry 2 i 0 0 first_day 6000 0

-- R85: a letter, gas confiscated from its writer on that day, and the counterpart.
abbrev pub confiscated_between : List (List ℕ)
confiscated_between = taking_on last_day 1 0 10000 ∷ entry 10 1 0 0 last_day 600 0 ∷ giving_on last_day 0 1 10000 ∷ []

-- R42: the two closings, the month's with prices of 0.
abbrev pub close_day : Date → List ℕ
close_day d = entry 8 0 0 0 d 0 0

abbrev pub close_month : Date → List ℕ
close_month d = entry 9 0 0 0 d 0 0

-- ---- what is asked of them

-- R61: the numbers that postings get, one after the other.
abbrev pub numbers : Ledger → List (List ℕ) → List ℕ
numbers l [] = []
numbers l (b ∷ bs) = (posted l b).answer.number ∷ numbers (posted l b).ledger bs

-- R61: postings that get these numbers and leave this ledger, all of it.
abbrev pub Leaves : Ledger → List (List ℕ) → List ℕ → Ledger → Type 0
Leaves l bs ns after = (numbers l bs ≡ ns) × (run l bs ≡ after)

-- R21: one posting that is refused, and leaves the ledger as it came.
abbrev pub Refuses : Ledger → List ℕ → ℕ → Type 0
Refuses l b n = Leaves l (b ∷ []) (n ∷ []) l

-- R111: the notices of the three accounts.
abbrev pub notices_of : Ledger → List Notice
notices_of l = (account_at l 0).today.notice ∷ (account_at l 1).today.notice ∷ (account_at l 2).today.notice ∷ []

-- R111: one posting that is accepted, and after which no notice of the three stands.
abbrev pub Clears : Ledger → List ℕ → Type 0
Clears l b = (numbers l (b ∷ []) ≡ 0 ∷ []) × (notices_of (run l (b ∷ [])) ≡ no_notice ∷ no_notice ∷ no_notice ∷ [])

-- R108 to R112: the cases.
pub record NoticeCases : Type 0 where
  -- R110: the first letter moves no gas, and stands. With the second 10,000 units go from 0 to 1 and neither stands, whoever writes first.
  pub taker_second :
      Leaves silent (gives 0 1 10000 ∷ []) (0 ∷ []) (three (gives_to 1 10000) no_notice no_notice)
      × Leaves silent (gives 0 1 10000 ∷ takes 1 0 10000 ∷ []) (0 ∷ 0 ∷ []) (with_banks 1990000 1010000 3000000)
  pub giver_second :
      Leaves silent (takes 1 0 10000 ∷ []) (0 ∷ []) (three no_notice (takes_from 0 10000) no_notice)
      × Leaves silent (takes 1 0 10000 ∷ gives 0 1 10000 ∷ []) (0 ∷ 0 ∷ []) (with_banks 1990000 1010000 3000000)
  -- R110: both may write again on the same day.
  pub once_more :
      Leaves silent (gives 0 1 10000 ∷ takes 1 0 10000 ∷ takes 1 0 10000 ∷ gives 0 1 10000 ∷ []) (0 ∷ 0 ∷ 0 ∷ 0 ∷ [])
      (with_banks 1980000 1020000 3000000)
  -- R109: no counterpart has another quantity, or the same side; both letters stand, and no bank moves.
  pub other_quantity :
      Leaves silent (gives 0 1 10000 ∷ takes 1 0 9999 ∷ []) (0 ∷ 0 ∷ []) (three (gives_to 1 10000) (takes_from 0 9999) no_notice)
      × Leaves silent (takes 1 0 10000 ∷ gives 0 1 10001 ∷ []) (0 ∷ 0 ∷ []) (three (gives_to 1 10001) (takes_from 0 10000) no_notice)
  pub same_side :
      Leaves silent (gives 0 1 10000 ∷ gives 1 0 10000 ∷ []) (0 ∷ 0 ∷ []) (three (gives_to 1 10000) (gives_to 0 10000) no_notice)
      × Leaves silent (takes 0 1 10000 ∷ takes 1 0 10000 ∷ []) (0 ∷ 0 ∷ []) (three (takes_from 1 10000) (takes_from 0 10000) no_notice)
  -- R109: nor does it name a third, or come from one. Of two that wait for 0 only the one that 0 names is answered.
  pub third_party :
      Leaves silent (takes 1 2 10000 ∷ gives 0 1 10000 ∷ []) (0 ∷ 0 ∷ []) (three (gives_to 1 10000) (takes_from 2 10000) no_notice)
      × Leaves silent (takes 1 0 10000 ∷ gives 0 2 10000 ∷ []) (0 ∷ 0 ∷ []) (three (gives_to 2 10000) (takes_from 0 10000) no_notice)
      × Leaves silent (takes 1 0 10000 ∷ takes 2 0 10000 ∷ gives 0 2 10000 ∷ []) (0 ∷ 0 ∷ 0 ∷ [])
      (in_june (supplier no_notice 1990000) (supplier (takes_from 0 10000) 1000000) (supplier no_notice 3010000))
  -- R110: 26 while the writer's own stands: the same again, one that would have its counterpart, and one that would then be past a limit.
  pub own_stands :
      Refuses (three (gives_to 1 10000) no_notice no_notice) (gives 0 1 10000) 26
      × Refuses (three (gives_to 2 5000) (takes_from 0 10000) no_notice) (gives 0 1 10000) 26
      × Refuses (three (gives_to 2 5000) (takes_from 0 1124931) no_notice) (gives 0 1 1124931) 26
  -- R110: 0 may give 1,124,930 units, and 2 take 750,300; the pair past that gets 28, whoever writes second, and changes nothing.
  pub at_limit :
      Leaves silent (gives 0 1 1124930 ∷ takes 1 0 1124930 ∷ []) (0 ∷ 0 ∷ []) (with_banks 875070 2124930 3000000)
      × Leaves silent (takes 2 0 750300 ∷ gives 0 2 750300 ∷ []) (0 ∷ 0 ∷ []) (with_banks 1249700 1000000 3750300)
  pub past_limit :
      Refuses (three (gives_to 1 1124931) no_notice no_notice) (takes 1 0 1124931) 28
      × Refuses (three no_notice (takes_from 0 1124931) no_notice) (gives 0 1 1124931) 28
      × Refuses (three (gives_to 2 750301) no_notice no_notice) (takes 2 0 750301) 28
      × Refuses (three no_notice no_notice (takes_from 0 750301)) (gives 0 2 750301) 28
  -- R110: after that 28 the same again gets 28, another stands, and the same is accepted once 0 has more.
  pub after_limit :
      Leaves (three no_notice (takes_from 0 1124931) no_notice) (gives 0 1 1124931 ∷ gives 0 1 1124931 ∷ gives 0 1 500 ∷ []) (28 ∷ 28 ∷ 0 ∷ [])
      (three (gives_to 1 500) (takes_from 0 1124931) no_notice)
      × Leaves (three no_notice (takes_from 0 1124931) no_notice) (gives 0 1 1124931 ∷ gives 2 0 10000 ∷ takes 0 2 10000 ∷ gives 0 1 1124931 ∷ [])
      (28 ∷ 0 ∷ 0 ∷ 0 ∷ []) (with_banks 885069 2124931 2990000)
  -- R108: the least quantity and the largest, which large suppliers can move.
  pub quantities :
      Leaves silent (gives 0 1 1 ∷ takes 1 0 1 ∷ []) (0 ∷ 0 ∷ []) (with_banks 1999999 1000001 3000000)
      × Leaves (in_june (holder true 30000000 no_notice 1420000000) (holder true 30000000 no_notice 800000000) nobody)
      (gives 0 1 1000000000 ∷ takes 1 0 1000000000 ∷ []) (0 ∷ 0 ∷ [])
      (in_june (holder true 30000000 no_notice 420000000) (holder true 30000000 no_notice 1800000000) nobody)
  -- R110: a letter that comes to stand is held to no limit, nor is it asked whether the gas would leave a bank in range (R18).
  pub no_limit :
      Leaves silent (gives 0 1 1000000000 ∷ takes 2 1 1000000000 ∷ []) (0 ∷ 0 ∷ []) (three (gives_to 1 1000000000) no_notice (takes_from 1 1000000000))
      × Leaves (with_banks 2000000 100000000000 3000000) (takes 1 0 1 ∷ []) (0 ∷ [])
      (in_june (supplier no_notice 2000000) (supplier (takes_from 0 1) 100000000000) (supplier no_notice 3000000))
  -- R110: where none of the writer's stands, what its members hold stays as the gas moves; a letter that stands sets them all.
  pub members :
      Leaves (three (leftover 9 9) (takes_from 0 10000) no_notice) (gives 0 1 10000 ∷ []) (0 ∷ [])
      (in_june (supplier (leftover 9 9) 1990000) (supplier no_notice 1010000) (supplier no_notice 3000000))
      × Leaves (three (leftover 9 9) (leftover 0 10000) no_notice) (gives 0 1 10000 ∷ []) (0 ∷ [])
      (three (gives_to 1 10000) (leftover 0 10000) no_notice)
  -- R110: other postings of the day leave what stands: a delivery of nothing, gas confiscated on 31 March, and TERMS where a ledger is handed in with
  -- a letter. The counterpart still finds it.
  pub meanwhile :
      Leaves (in_june (supplier no_notice 2000000) (holder false 62505 (takes_from 0 10000) 1000000) (supplier no_notice 3000000))
      (entry 3 1 0 0 mid_june 0 0 ∷ gives 0 1 10000 ∷ []) (0 ∷ 0 ∷ []) (with_banks 1990000 1010000 3000000)
      × (numbers (unmoved true last_day) confiscated_between ≡ 0 ∷ 0 ∷ 0 ∷ [])
      × (notices_of (run (unmoved true last_day) confiscated_between) ≡ no_notice ∷ no_notice ∷ no_notice ∷ [])
      × (bank_of (run (unmoved true last_day) confiscated_between) 1 ≡ pos 1210000)
      × (notices_of (run (untouched (takes_from 0 10000)) (terms ∷ [])) ≡ no_notice ∷ takes_from 0 10000 ∷ no_notice ∷ [])
  -- R111: both closings clear every notice of an open account, in a new ledger and in an old one that is handed in with some.
  pub cleared :
      ((new : Bool) → Clears (three_waiting new mid_june) (close_day mid_june))
      × ((new : Bool) → Clears (three_waiting new june_ends) (close_month june_ends))
  -- R111: so letters of two days do not meet: the second stands, and no bank has moved.
  pub next_day :
      Leaves silent (gives 0 1 10000 ∷ close_day mid_june ∷ taking_on next_morning 1 0 10000 ∷ []) (0 ∷ 0 ∷ 0 ∷ [])
      (around true true next_morning (holder false 62505 no_notice 2000000) (holder false 62505 (takes_from 0 10000) 1000000)
      (holder false 62505 no_notice 3000000))
  -- R111: a closing that is refused clears none, and one that is accepted none of an account that is not open.
  pub not_cleared :
      Refuses (in_june (supplier (gives_to 1 10000) 2000000) (holder false 62505 (takes_from 0 500) 1000000) nobody) (close_day mid_june) 27
      × Leaves (in_june (supplier (gives_to 1 10000) 2000000) (with_notice nobody (takes_from 0 500)) (with_notice nobody (leftover 20 0)))
      (close_day mid_june ∷ []) (0 ∷ [])
      (around false true next_morning (holder false 62505 no_notice 2000000) (with_notice nobody (takes_from 0 500)) (with_notice nobody (leftover 20 0)))
  -- R111: ENROL starts without a notice, whatever the account held.
  pub enrolled :
      (numbers newcomers (enrol 1 ∷ enrol 2 ∷ []) ≡ 0 ∷ 0 ∷ [])
      × (notices_of (run newcomers (enrol 1 ∷ enrol 2 ∷ [])) ≡ no_notice ∷ no_notice ∷ no_notice ∷ [])
  -- R112: in a new ledger a TRANSFER is accepted up to 31 March 2027, and gets 36 from the day after on.
  pub transfers_end :
      Leaves (unmoved true last_day) (transfer last_day 0 1 10000 ∷ []) (0 ∷ []) (moved true last_day)
      × Leaves (unmoved true year_before) (transfer year_before 0 1 10000 ∷ []) (0 ∷ []) (moved true year_before)
      × Refuses (unmoved true first_day) (transfer first_day 0 1 10000) 36
      × Refuses silent (transfer mid_june 0 1 10000) 36
      × Refuses (unmoved true year_after) (transfer year_after 0 1 10000) 36
  -- R112: an old ledger keeps its transfers, and letters go on in a new one.
  pub transfers_stay :
      Leaves (unmoved false last_day) (transfer last_day 0 1 10000 ∷ []) (0 ∷ []) (moved false last_day)
      × Leaves (unmoved false first_day) (transfer first_day 0 1 10000 ∷ []) (0 ∷ []) (moved false first_day)
      × Leaves (unmoved false mid_june) (transfer mid_june 0 1 10000 ∷ []) (0 ∷ []) (moved false mid_june)
      × Leaves (unmoved true first_day) (taking_on first_day 1 0 10000 ∷ giving_on first_day 0 1 10000 ∷ []) (0 ∷ 0 ∷ []) (moved true first_day)
  -- R112: 36 comes after 7 and 20 to 22, and before 24 and 28, which the same TRANSFER gets on the last day.
  pub retired_in_order :
      Refuses (unmoved true first_day) (transfer first_day 0 0 10000) 7
      × Refuses (around true true first_day (supplier (gives_to 16 1) 1500000) (supplier no_notice 1200000) nobody) (transfer first_day 0 1 10000) 20
      × Refuses (fresh true) (transfer first_day 0 1 10000) 21
      × Refuses (unmoved true last_day) (transfer first_day 0 1 10000) 22
      × Refuses (unmoved true first_day) (transfer last_day 0 1 10000) 22
      × Refuses (unmoved true first_day) (transfer first_day 0 2 10000) 36
      × Refuses (unmoved true last_day) (transfer last_day 0 2 10000) 24
      × Refuses (unmoved true first_day) (transfer first_day 0 1 1000000) 36
      × Refuses (unmoved true last_day) (transfer last_day 0 1 1000000) 28
  -- R112: as long as there are both, a TRANSFER neither asks for a notice nor clears one, so the same gas moves by it and by the pair around it.
  pub twice :
      Leaves (unmoved true last_day) (taking_on last_day 1 0 10000 ∷ transfer last_day 0 1 10000 ∷ []) (0 ∷ 0 ∷ [])
      (around true true last_day (supplier no_notice 1490000) (supplier (takes_from 0 10000) 1210000) nobody)
      × Leaves (unmoved true last_day) (taking_on last_day 1 0 10000 ∷ transfer last_day 0 1 10000 ∷ giving_on last_day 0 1 10000 ∷ [])
      (0 ∷ 0 ∷ 0 ∷ []) (two true last_day 1480000 1220000)
  -- R108: 2 in an old ledger, even where a counterpart stands.
  pub old :
      Refuses (unmoved false mid_june) (gives 0 1 10000) 2
      × Refuses (around true false mid_june (supplier no_notice 2000000) (supplier (takes_from 0 10000) 1000000) nobody) (gives 0 1 10000) 2
  -- R108: 4 for an account that is none of the sixteen, 5 for a flag above 1 and for a second word, 6 for no gas and for too much, 7 for a letter to
  -- oneself, whose account need not be open. Of two the earlier one.
  pub wrong_forms :
      Refuses silent (gives 16 1 10000) 4
      × Refuses silent (gives 0 16 10000) 4
      × Refuses silent (entry 12 0 1 2 mid_june 10000 0) 5
      × Refuses silent (entry 12 0 1 0 mid_june 10000 10000) 5
      × Refuses silent (gives 0 1 0) 6
      × Refuses silent (takes 0 1 1000000001) 6
      × Refuses silent (gives 0 0 10000) 7
      × Refuses silent (takes 3 3 10000) 7
      × Refuses silent (entry 12 16 1 2 mid_june 10000 0) 4
      × Refuses silent (entry 12 0 1 2 mid_june 0 0) 5
      × Refuses silent (gives 0 0 0) 6
  -- R110: 21 before the ledger has begun, 22 on another day, 24 where either is not open: before 26, and where a notice of a closed account waits.
  pub wrong_ledgers :
      Refuses (fresh true) (gives 0 1 10000) 21
      × Refuses silent (giving_on june_ends 0 1 10000) 22
      × Refuses silent (gives 3 1 10000) 24
      × Refuses silent (gives 0 3 10000) 24
      × Refuses (three (gives_to 1 10000) no_notice no_notice) (gives 0 3 10000) 24
      × Refuses (in_june (supplier no_notice 2000000) (with_notice nobody (takes_from 0 10000)) nobody) (gives 0 1 10000) 24
      × Refuses (in_june (supplier (takes_from 1 10000) 2000000) (with_notice nobody (takes_from 0 10000)) nobody) (gives 1 0 10000) 24
  -- R111: 20 for one that stands and names a seventeenth account, no gas, or too much; of an account that is not open, in an old ledger, and before 21.
  pub out_of_range :
      Refuses (three (gives_to 16 10000) no_notice no_notice) (gives 0 1 10000) 20
      × Refuses (three no_notice no_notice (takes_from 0 0)) (gives 0 1 10000) 20
      × Refuses (three no_notice no_notice (takes_from 0 1000000001)) (close_day mid_june) 20
      × Refuses (in_june (supplier no_notice 2000000) (supplier no_notice 1000000) (with_notice nobody (gives_to 16 1))) (gives 0 1 10000) 20
      × Refuses (around true false mid_june (supplier (gives_to 16 1) 2000000) nobody nobody) (close_day mid_june) 20
      × Refuses damaged (gives 0 1 10000) 20
  -- R111: in range are the last account and both ends of the quantity; and where none stands, whatever the other members hold.
  pub in_range :
      Clears (three (gives_to 15 1) (takes_from 15 1000000000) (gives_to 0 1)) (close_day mid_june)
      × Leaves (three no_notice (leftover 16 0) (leftover 18446744073709551615 18446744073709551615)) (gives 0 1 10000 ∷ []) (0 ∷ [])
      (three (gives_to 1 10000) (leftover 16 0) (leftover 18446744073709551615 18446744073709551615))
  -- R110: a letter marks the day, so TERMS gets 23 after it, whether it stands or moves gas; one past a limit does not.
  pub marks_the_day :
      (numbers (untouched no_notice) (terms ∷ []) ≡ 0 ∷ [])
      × (numbers (untouched no_notice) (giving_on april_2026 0 1 10000 ∷ terms ∷ []) ≡ 0 ∷ 23 ∷ [])
      × (numbers (untouched (takes_from 0 10000)) (giving_on april_2026 0 1 10000 ∷ terms ∷ []) ≡ 0 ∷ 23 ∷ [])
      × (numbers (untouched (takes_from 0 1000000000)) (giving_on april_2026 0 1 1000000000 ∷ terms ∷ []) ≡ 28 ∷ 0 ∷ [])
