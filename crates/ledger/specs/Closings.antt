-- A closing: each open account by itself, all of them or none; then it is the next day.
use Rattle.std.specs.Prelude.{◌≡◌, false, cond, not, eqb, List, [], ◌∷◌, map, Result, MatchResult, ⊤}
use Rattle.ledger.specs.Structs.{Account, Entry, Holidays, Ledger, Posted, Report}
use Rattle.ledger.specs.declared.refusals.Refusal.{Refusal}
use Rattle.tariff.specs.Dates.{last_of_month, day_after}
use Rattle.tariff.specs.Holidays.{held_dates, kept_from, on_measurement_day, stored_dates}
use Rattle.ledger.specs.Checks.{Check, verdict}
use Rattle.ledger.specs.Kinds as kinds
use Rattle.ledger.specs.State.{held_in, ledger}
use Rattle.ledger.specs.Ranges.{every_account}
use Rattle.ledger.specs.Refusals.{number}
use Rattle.ledger.specs.Answers.{refused}
use Rattle.ledger.specs.Closing.{ready, stays_in_range, after_closing, report_of}

-- R44: 27, then 29. The right closing for the day, 23, was asked before (R42).
unfoldable pub closing_checks : Ledger → Entry → List Check
closing_checks l e =
    (not (every_account (ready (last_of_month e.date) (on_measurement_day (held_in l) e.date)) l.accounts), 27)
    ∷ (not (every_account (stays_in_range l.is_new l.terms e) l.accounts), 29)
    ∷ []

-- R104: as a month ends, holidays before the new day are dropped; a day's closing leaves all places as they are.
unfoldable pub holidays_after : Entry → Holidays → Holidays
holidays_after e h = cond (eqb e.kind kinds.CLOSE_MONTH) (stored_dates (kept_from (day_after e.date) (held_dates h))) h

-- R59: sixteen reports, and the next day, on which nothing has been accepted yet.
unfoldable pub closed : Ledger → Entry → Posted
closed l e =
    record {
      answer = record { number = 0; reports = map (report_of l.is_new l.terms e) l.accounts };
      ledger =
          ledger l.begun false l.is_new (day_after e.date) l.terms (holidays_after e l.holidays)
          (map (after_closing l.is_new l.terms e) l.accounts);
    }

-- R58 and R59: every account closed with its report, or the refusal that the checks find.
abbrev pub Closes : Result ⊤ Refusal → Ledger → Entry → List Account → List Report → Type 0
Closes r l e accounts reports =
    MatchResult r
    (λ _. (verdict (closing_checks l e) ≡ 0) × (accounts ≡ (closed l e).ledger.accounts) × (reports ≡ (closed l e).answer.reports))
    (λ f. verdict (closing_checks l e) ≡ number f)

-- R58: a single account can refuse the closing, and then none is closed.
unfoldable pub post_closing : Ledger → Entry → Posted
post_closing l e =
    cond (eqb (verdict (closing_checks l e)) 0) (closed l e) (refused l (verdict (closing_checks l e)))
