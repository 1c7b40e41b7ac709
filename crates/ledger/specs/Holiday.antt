-- HOLIDAY: a day on which no meter is read.
use Rattle.std.specs.Prelude.{◌≡◌, not, ◌&&◌, ◌||◌, leb, List, [], ◌∷◌, ◌++◌, Result, MatchResult}
use Rattle.ledger.specs.Structs.{Date, Entry, Holidays, Ledger, Posted}
use Rattle.ledger.specs.declared.refusals.Refusal.{Refusal}
use Rattle.tariff.specs.Dates.{before, real}
use Rattle.tariff.specs.Holidays.{leaves_one, named, stored_dates}
use Rattle.ledger.specs.Checks.{Check, verdict}
use Rattle.ledger.specs.Entries.{day_named}
use Rattle.ledger.specs.State.{held_in, with_holidays}
use Rattle.ledger.specs.Refusals.{number}
use Rattle.ledger.specs.Answers.{settle}

-- R102: 33 unless the date exists and lies after the ledger's, 34 if sixteen are held or this one is, 35 if no business day would be left in its
-- month from the 25th on.
unfoldable pub holiday_checks : Ledger → Date → List Check
holiday_checks l d =
    (not (real d && before l.date d), 33)
    ∷ (leb 16 l.holidays.count || named (held_in l) d, 34)
    ∷ (not (leaves_one (held_in l ++ d ∷ []) d), 35)
    ∷ []

-- R102: the date is held behind the others; all are stored anew (R101).
unfoldable pub holding : Ledger → Date → Ledger
holding l d = with_holidays l (stored_dates (held_in l ++ d ∷ []))

-- R102: the dates held anew, or the refusal that the checks find.
abbrev pub Names : Result Holidays Refusal → Ledger → Date → Type 0
Names r l d =
    MatchResult r (λ h. (verdict (holiday_checks l d) ≡ 0) × (h ≡ stored_dates (held_in l ++ d ∷ []))) (λ f. verdict (holiday_checks l d) ≡ number f)

-- R102: the posting.
unfoldable pub post_holiday : Ledger → Entry → Posted
post_holiday l e = settle l (verdict (holiday_checks l (day_named e))) (holding l (day_named e))
