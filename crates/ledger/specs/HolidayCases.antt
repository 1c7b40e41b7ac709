-- Cases of holidays, worked out in advance: no ledger that forgets what was named, counts a weekend, or asks for the old day meets them.
use Rattle.std.specs.Prelude.{ℕ, zero, suc, ◌+◌, ◌/◌, ◌%◌, pos, Bool, true, false, List, [], ◌∷◌, ◌++◌, replicate, ◌≡◌}
use Rattle.ledger.specs.Structs.{Account, Date, Holidays, Ledger}
use Rattle.tariff.specs.Holidays.{date_of, stored_dates}
use Rattle.tariff.specs.Terms.{terms_from}
use Rattle.ledger.specs.State.{account, held_in, ledger, no_notice, no_totals, nobody}
use Rattle.ledger.specs.Posting.{posted}
use Rattle.ledger.specs.Running.{run}
use Rattle.ledger.specs.Measuring.{measurement_day_in}
use Rattle.ledger.specs.MarkedCases.{word}

-- ---- a ledger on a day of 2026 or later, and postings to it

-- R101: a date, by numbers.
abbrev pub date : ℕ → ℕ → ℕ → Date
date year month day = date_of year (record { 0 = month }) day

-- R67: account 0 with step 2, MDDQ 1,500, BCQ 62,505 and half of that in bank; it has its delivery, and its consumption for the month's end.
-- `measured` says whether its meters were read this month.
abbrev pub supplier : Bool → Account
supplier measured =
    account true false (record { delivered = true; v1 = false; v2 = false; confiscated = false; confiscation = record { 0 = 0 }; notice = no_notice })
    (record { 0 = pos 3125250 })
    (record { 0 = 4200 }) (record { k = 2; pending = 2; over = 0; under = 0 }) (record { mddq = record { 0 = 1500 }; bcq = record { 0 = 62505 } })
    (record { totals = no_totals; measured = measured; metered = true }) (record { 0 = 0 }) (record { 0 = pos 0 }) 0

-- R67: a ledger under the terms of all examples, old or new, at a date and with its holidays; and a new one that holds some dates.
abbrev pub around : Bool → Date → Holidays → Account → Ledger
around new today holidays a = ledger true true new today (terms_from 120000 480000 5000400 150 0 0) holidays (a ∷ replicate 15 nobody)

abbrev pub at : Date → List Date → Account → Ledger
at today hs a = around true today (stored_dates hs) a

-- R11: an entry of a day, with three words.
abbrev pub entry : ℕ → Date → ℕ → ℕ → ℕ → List ℕ
entry kind d w1 w2 w3 =
    kind ∷ 0 ∷ 0 ∷ 0 ∷ d.year % 256 ∷ d.year / 256 % 256 ∷ d.month.0 ∷ d.day ∷ word w1 ++ word w2 ++ word w3 ++ replicate 12 0

-- R102: a HOLIDAY of a day that names another.
abbrev pub holiday : Date → Date → List ℕ
holiday today d = entry 11 today d.year d.month.0 d.day

-- R40 and R42: a measurement, and the two closings.
abbrev pub measure : Date → List ℕ
measure today = entry 6 today 4200 0 0

abbrev pub close_day : Date → List ℕ
close_day today = entry 8 today 0 0 0

abbrev pub close_month : Date → List ℕ
close_month today = entry 9 today 0 0 0

-- R21: the number that a posting gets.
abbrev pub number : Ledger → List ℕ → ℕ
number l b = (posted l b).answer.number

-- R101: what is held after a posting.
abbrev pub held_after : Ledger → List ℕ → List Date
held_after l b = held_in (posted l b).ledger

-- R105: the measurement day of a month after dates were named, one after the other, on a day.
abbrev pub named_on : Date → List Date → List (List ℕ)
named_on today [] = []
named_on today (d ∷ ds) = holiday today d ∷ named_on today ds

abbrev pub measured_after : Date → List Date → ℕ → ℕ → ℕ
measured_after today ds year month = measurement_day_in (run (at today [] (supplier false)) (named_on today ds)) year month

-- ---- the days that the cases are about

-- R8: Christmas 2026 is a Friday, so the next business day is Monday the 28th.
abbrev pub eve : Date
eve = date 2026 12 24

abbrev pub christmas : Date
christmas = date 2026 12 25

abbrev pub monday : Date
monday = date 2026 12 28

-- R8: 25 March 2027 is a Thursday, and the month ends on the Wednesday after.
abbrev pub march : ℕ → Date
march day = date 2027 3 day

-- R101: so many days of January 2027 from the first on.
abbrev pub days : ℕ → ℕ → List Date
days day zero = []
days day (suc n) = date 2027 1 day ∷ days (day + 1) n

abbrev pub full : Ledger
full = at eve (days 1 16) (supplier true)

-- R102 to R106: the cases.
pub record HolidayCases : Type 0 where
  -- R106: naming Christmas is accepted, is held, and moves December's measuring from the 25th over the weekend to the 28th.
  pub named :
      (number (at eve [] (supplier false)) (holiday eve christmas) ≡ 0)
      × (held_after (at eve [] (supplier false)) (holiday eve christmas) ≡ christmas ∷ [])
      × (measured_after eve [] 2026 12 ≡ 25)
      × (measured_after eve (christmas ∷ []) 2026 12 ≡ 28)
  -- R40: then MEASURE is refused on the 25th and accepted on the 28th; without it the other way round.
  pub measuring :
      (number (at christmas (christmas ∷ []) (supplier false)) (measure christmas) ≡ 23)
      × (number (at monday (christmas ∷ []) (supplier false)) (measure monday) ≡ 0)
      × (number (at christmas [] (supplier false)) (measure christmas) ≡ 0)
      × (number (at monday [] (supplier false)) (measure monday) ≡ 23)
  -- R43: and the closing of the 28th asks for it, that of the 25th does not; without it the other way round.
  pub closing :
      (number (at christmas (christmas ∷ []) (supplier false)) (close_day christmas) ≡ 0)
      × (number (at monday (christmas ∷ []) (supplier false)) (close_day monday) ≡ 27)
      × (number (at monday (christmas ∷ []) (supplier true)) (close_day monday) ≡ 0)
      × (number (at christmas [] (supplier false)) (close_day christmas) ≡ 27)
      × (number (at monday [] (supplier false)) (close_day monday) ≡ 0)
  -- R8: a weekend stays one, whatever is held: the 25th of April 2026 is a Saturday.
  pub weekend : (measured_after (date 2026 4 2) (christmas ∷ []) 2026 4 ≡ 27) × (measured_after (date 2026 4 2) (date 2026 4 27 ∷ []) 2026 4 ≡ 28)
  -- R106: four weekdays in a row over a weekend, one after the other; the last day that is left cannot be named.
  pub four_in_a_row :
      (measured_after (march 24) (march 25 ∷ []) 2027 3 ≡ 26)
      × (measured_after (march 24) (march 25 ∷ march 26 ∷ []) 2027 3 ≡ 29)
      × (measured_after (march 24) (march 25 ∷ march 26 ∷ march 29 ∷ []) 2027 3 ≡ 30)
      × (measured_after (march 24) (march 25 ∷ march 26 ∷ march 29 ∷ march 30 ∷ []) 2027 3 ≡ 31)
      × (number (at (march 24) (march 25 ∷ march 26 ∷ march 29 ∷ march 30 ∷ []) (supplier false)) (holiday (march 24) (march 31)) ≡ 35)
      × (number (at (march 31) (march 25 ∷ march 26 ∷ march 29 ∷ march 30 ∷ []) (supplier false)) (close_month (march 31)) ≡ 27)
  -- R102: 35 as February ends: in 2027 only Thursday the 25th and Friday the 26th are left, in 2028 the 25th, 28th and 29th.
  pub february :
      (number (at eve (date 2027 2 25 ∷ []) (supplier true)) (holiday eve (date 2027 2 26)) ≡ 35)
      × (number (at eve (date 2027 2 25 ∷ []) (supplier true)) (holiday eve (date 2027 2 27)) ≡ 0)
      × (number (at eve (date 2028 2 25 ∷ []) (supplier true)) (holiday eve (date 2028 2 28)) ≡ 0)
      × (number (at eve (date 2028 2 25 ∷ date 2028 2 28 ∷ []) (supplier true)) (holiday eve (date 2028 2 29)) ≡ 35)
  -- R102: 33 for today and for a day before it, for a date that does not exist, and for a year whose low bytes alone would be one.
  pub no_day :
      (number (at eve [] (supplier true)) (holiday eve eve) ≡ 33)
      × (number (at eve [] (supplier true)) (holiday eve (date 2026 11 30)) ≡ 33)
      × (number (at eve [] (supplier true)) (holiday eve (date 2027 2 29)) ≡ 33)
      × (number (at eve [] (supplier true)) (holiday eve (date 2100 1 1)) ≡ 33)
      × (number (at eve [] (supplier true)) (holiday eve (date 67563 1 1)) ≡ 33)
      × (number (at eve [] (supplier true)) (holiday eve (date 0 0 0)) ≡ 33)
  -- R102: 34 for a seventeenth, and for one that is held; 33 comes before both, and both before 35. Fifteen leave room for one.
  pub no_room :
      (number full (holiday eve (date 2027 1 17)) ≡ 34)
      × (number full (holiday eve (date 2027 1 16)) ≡ 34)
      × (number full (holiday eve eve) ≡ 33)
      × (number (at eve (christmas ∷ []) (supplier true)) (holiday eve christmas) ≡ 34)
      × (number (at eve (days 1 15) (supplier true)) (holiday eve (date 2027 1 17)) ≡ 0)
      × (number (at eve (date 2027 2 25 ∷ days 1 15) (supplier true)) (holiday eve (date 2027 2 26)) ≡ 34)
  -- R104: as the month ends, what lies before the new day is dropped and the rest is stored anew in its order; a day's closing drops nothing.
  pub dropped :
      ((posted (at (date 2026 12 31) (christmas ∷ date 2027 1 18 ∷ date 2026 12 31 ∷ date 2027 1 1 ∷ []) (supplier true)) (close_month (date 2026 12 31))).ledger.holidays
      ≡ stored_dates (date 2027 1 18 ∷ date 2027 1 1 ∷ []))
      × (held_after (at (date 2026 12 30) (christmas ∷ date 2027 1 1 ∷ []) (supplier true)) (close_day (date 2026 12 30)) ≡ christmas ∷ date 2027 1 1 ∷ [])
      × (held_after (at (date 2026 12 31) (christmas ∷ []) (supplier true)) (close_day (date 2026 12 31)) ≡ christmas ∷ [])
  -- R103: 20 for a seventeenth place counted, a held date that does not exist, and a month that has run dry; a day that has passed or a Sunday is no fault.
  pub damaged :
      (number (around true eve (record { count = 17; dates = days 1 16 }) (supplier true)) (close_day eve) ≡ 20)
      × (number (at eve (date 2027 2 29 ∷ []) (supplier true)) (close_day eve) ≡ 20)
      × (number (at eve (date 2027 2 25 ∷ date 2027 2 26 ∷ []) (supplier true)) (close_day eve) ≡ 20)
      × (number (at eve (date 2026 12 20 ∷ date 2026 12 20 ∷ []) (supplier true)) (close_day eve) ≡ 0)
  -- R84: no kind in an old ledger, but held dates count in any that has them. R15: 5 if more than three words are set.
  pub numbers :
      (number (around false eve (stored_dates []) (supplier true)) (holiday eve christmas) ≡ 2)
      × (number (around false christmas (stored_dates (christmas ∷ [])) (supplier false)) (close_day christmas) ≡ 0)
      × (number (at eve [] (supplier true)) (11 ∷ 0 ∷ 0 ∷ 1 ∷ 234 ∷ 7 ∷ 12 ∷ 24 ∷ word 2026 ++ word 12 ++ word 25 ++ replicate 12 0) ≡ 5)
      × (number (at eve [] (supplier true)) (11 ∷ 0 ∷ 0 ∷ 0 ∷ 234 ∷ 7 ∷ 12 ∷ 24 ∷ word 2026 ++ word 12 ++ word 25 ++ word 1 ++ replicate 8 0) ≡ 5)
