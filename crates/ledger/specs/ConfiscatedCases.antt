-- Cases of confiscated gas, worked out in advance: no ledger that ignores the amount, takes the larger, or keeps it meets them.
use Rattle.std.specs.Prelude.{ℕ, pos, Bool, true, false, List, [], ◌∷◌, ◌++◌, get_or, replicate, ◌≡◌}
use Rattle.ledger.specs.Structs.{Account, Ledger, Today}
use Rattle.tariff.specs.Holidays.{stored_dates}
use Rattle.tariff.specs.Terms.{terms_from}
use Rattle.ledger.specs.Answers.{quiet}
use Rattle.ledger.specs.State.{account, account_at, ledger, no_notice, no_totals, no_today, nobody, with_measure, with_today}
use Rattle.ledger.specs.Posting.{posted}
use Rattle.ledger.specs.Panel.{bank_of}
use Rattle.ledger.specs.Running.{run}
use Rattle.ledger.specs.MarkedCases.{word}

-- ---- a ledger on a day of 2027, and postings to it

-- R67: account 0 with step 2, MDDQ 1,500 and BCQ 62,505, of which 65 percent are 4,062,825 units and 25 percent 1,562,625.
-- It has its measurement; `metered` says whether it has its consumption too, without which no month closes (R43).
abbrev pub supplier : ℕ → Bool → Today → Account
supplier bank metered today =
    account true false today (record { 0 = pos bank }) (record { 0 = 4200 }) (record { k = 2; pending = 2; over = 0; under = 0 })
    (record { mddq = record { 0 = 1500 }; bcq = record { 0 = 62505 } }) (record { totals = no_totals; measured = true; metered = metered })
    (record { 0 = 0 }) (record { 0 = pos 0 }) 0

-- R35: a day that has its delivery, and an amount on record or none.
abbrev pub delivered : Bool → ℕ → Today
delivered told amount = record { delivered = true; v1 = false; v2 = false; confiscated = told; confiscation = record { 0 = amount }; notice = no_notice }

-- R67: the ledger, old or new, under the terms of all examples; the other fifteen accounts are not open.
abbrev pub on : Bool → ℕ → ℕ → Account → Ledger
on new month day a =
    ledger true true new (record { year = 2027; month = record { 0 = month }; day = day }) (terms_from 120000 480000 5000400 150 0 0)
    (stored_dates []) (a ∷ replicate 15 nobody)

-- R84: as January or March ends, with so much in bank and nothing told of confiscated gas.
abbrev pub ending : Bool → ℕ → ℕ → Ledger
ending new month bank = on new month 31 (supplier bank true (delivered false 0))

-- R11: an entry of an account on a day of 2027, with one word.
abbrev pub entry : ℕ → ℕ → ℕ → ℕ → ℕ → List ℕ
entry kind a month day w = kind ∷ a ∷ 0 ∷ 0 ∷ 235 ∷ 7 ∷ month ∷ day ∷ word w ++ replicate 20 0

-- R85: an amount confiscated from account 0 at a month's end.
abbrev pub confiscated : ℕ → ℕ → List ℕ
confiscated month amount = entry 10 0 month 31 amount

-- R42: the month's closing, with prices of 0.
abbrev pub closing : ℕ → List ℕ
closing month = entry 9 0 month 31 0

-- ---- what is asked of them

-- R61: the number that a posting gets after others.
abbrev pub number_after : Ledger → List (List ℕ) → List ℕ → ℕ
number_after l before b = (posted (run l before) b).answer.number

-- R57: the forfeit that the month's closing reports of account 0 after others, and the bank that it leaves.
abbrev pub forfeit_after : Ledger → List (List ℕ) → ℕ → ℕ
forfeit_after l before month = (get_or (posted (run l before) (closing month)).answer.reports 0 quiet).forfeit.0

-- R85: what a ledger has on record of account 0.
abbrev pub on_record : Ledger → Bool × ℕ
on_record l = ((account_at l 0).today.confiscated, (account_at l 0).today.confiscation.0)

-- R86: 1,000 units above 65 percent as January ends, and above 25 percent as March ends.
abbrev pub january : Bool → Ledger
january new = ending new 1 4063825

abbrev pub march : Bool → Ledger
march new = ending new 3 1563625

-- R56: January's last day, with a step that falls.
abbrev pub falling : Bool → Ledger
falling new =
    on new 1 31 (with_measure (supplier 4063825 true (delivered false 0)) (record { 0 = 2400 }) (record { k = 2; pending = 1; over = 0; under = 0 }))

-- R43: January's last day without its consumption, so that its closing is refused.
abbrev pub unmetered : Ledger
unmetered = on true 1 31 (supplier 4063825 false (delivered false 0))

-- R85 and R86: the cases.
pub record ConfiscatedCases : Type 0 where
  -- R86: the excess above, equal to and below what was confiscated, in January and in March.
  pub above : (forfeit_after (january true) (confiscated 1 600 ∷ []) 1 ≡ 600) × (forfeit_after (march true) (confiscated 3 999 ∷ []) 3 ≡ 999)
  pub equal : (forfeit_after (january true) (confiscated 1 1000 ∷ []) 1 ≡ 1000) × (forfeit_after (march true) (confiscated 3 1000 ∷ []) 3 ≡ 1000)
  pub below : (forfeit_after (january true) (confiscated 1 1001 ∷ []) 1 ≡ 1000) × (forfeit_after (march true) (confiscated 3 1000000000 ∷ []) 3 ≡ 1000)
  -- R86: nothing told, and 0 told.
  pub none : (forfeit_after (january true) [] 1 ≡ 0) × (forfeit_after (march true) [] 3 ≡ 0)
  pub nothing : (forfeit_after (january true) (confiscated 1 0 ∷ []) 1 ≡ 0) × (forfeit_after (march true) (confiscated 3 0 ∷ []) 3 ≡ 0)
  -- R57: an old ledger forfeits all of it, also where an amount stands in the ledger handed in.
  pub old :
      (forfeit_after (january false) [] 1 ≡ 1000)
      × (forfeit_after (march false) [] 3 ≡ 1000)
      × (forfeit_after (on false 1 31 (supplier 4063825 true (delivered true 600))) [] 1 ≡ 1000)
  -- R57: the excess is what is left above after the day's cash: of 103 percent in January 98 stay, and 33 of them lie above 65.
  pub after_cash :
      (forfeit_after (ending false 1 6438015) [] 1 ≡ 2062665) × (forfeit_after (ending true 1 6438015) (confiscated 1 3000000 ∷ []) 1 ≡ 2062665)
  -- R56: it goes by the BCQ that the month's end brings, 31,252 where the step falls to 1.
  pub next_step : (forfeit_after (falling false) [] 1 ≡ 2032445) × (forfeit_after (falling true) (confiscated 1 2032444 ∷ []) 1 ≡ 2032444)
  -- R85: the posting itself moves no gas; the closing takes the forfeit from the bank, and clears what was told.
  pub bank :
      (bank_of (run (january true) (confiscated 1 600 ∷ [])) 0 ≡ pos 4063825)
      × (bank_of (run (january true) (confiscated 1 600 ∷ closing 1 ∷ [])) 0 ≡ pos 4063225)
  pub told :
      (on_record (run (january true) (confiscated 1 600 ∷ [])) ≡ (true, 600)) × (on_record (run (january true) (confiscated 1 600 ∷ closing 1 ∷ [])) ≡ (false, 0))
  -- R85: a delivery of the same day leaves it; every accepted closing clears it, in an old ledger too, and ENROL starts without one.
  pub left_and_cleared :
      (on_record (run (on true 1 31 (supplier 0 true no_today)) (confiscated 1 600 ∷ entry 3 0 1 31 0 ∷ [])) ≡ (true, 600))
      × (on_record (run (on false 1 30 (supplier 2300000 true (delivered true 600))) (entry 8 0 1 30 0 ∷ [])) ≡ (false, 0))
      × (on_record (run (on true 4 1 (with_today nobody (delivered true 600))) (entry 2 0 4 1 6000 ∷ [])) ≡ (false, 0))
  -- R85: 26 the second time, also after 0 was told, and after a closing that was refused and left the amount.
  pub twice :
      (number_after (january true) [] (confiscated 1 600) ≡ 0)
      × (number_after (january true) (confiscated 1 600 ∷ []) (confiscated 1 600) ≡ 26)
      × (number_after (january true) (confiscated 1 0 ∷ []) (confiscated 1 600) ≡ 26)
  pub refused_closing :
      (number_after unmetered (confiscated 1 600 ∷ []) (closing 1) ≡ 27)
      × (number_after unmetered (confiscated 1 600 ∷ closing 1 ∷ []) (confiscated 1 600) ≡ 26)
      × (on_record (run unmetered (confiscated 1 600 ∷ closing 1 ∷ [])) ≡ (true, 600))
  -- R85: 23 on any other day, before 24 for an account that is not open.
  pub off_day :
      (number_after (on true 1 30 (supplier 0 true no_today)) [] (entry 10 0 1 30 600) ≡ 23)
      × (number_after (on true 2 28 (supplier 0 true no_today)) [] (entry 10 0 2 28 600) ≡ 23)
      × (number_after (on true 3 30 (supplier 0 true no_today)) [] (entry 10 1 3 30 600) ≡ 23)
      × (number_after (on true 5 31 (supplier 0 true no_today)) [] (entry 10 0 5 31 600) ≡ 23)
      × (number_after (january true) [] (entry 10 1 1 31 600) ≡ 24)
  -- R84: no kind in an old ledger, and later kinds are none yet in a new one. R13: 6 above 10^9. R18: 20 if the amount on record is out of range.
  pub numbers :
      (number_after (january false) [] (confiscated 1 600) ≡ 2)
      × (number_after (january true) [] (entry 13 0 1 31 600) ≡ 2)
      × (number_after (january true) [] (entry 14 0 1 31 600) ≡ 2)
      × (number_after (january true) [] (confiscated 1 1000000001) ≡ 6)
      × (number_after (on false 1 31 (supplier 0 true (delivered false 1000000001))) [] (closing 1) ≡ 20)
