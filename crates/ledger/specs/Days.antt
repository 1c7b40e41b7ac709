-- Numbers 36 and 23: which day a kind may have.
use Rattle.std.specs.Prelude.{Bool, false, not, ◌&&◌, ◌||◌, eqb, List, [], ◌∷◌}
use Rattle.ledger.specs.Structs.{Date, Entry}
use Rattle.tariff.specs.Dates.{before, confiscation_day, first_of_gas_year, last_of_month, last_date}
use Rattle.tariff.specs.Holidays.{date_of, on_measurement_day}
use Rattle.ledger.specs.Kinds as kinds

-- R27 and R30: a year's terms and new accounts come on 1 April, terms before all else, as enrolments go by them.
-- R40: MEASURE has the measurement day, by the holidays hs. R42: a closing is of the kind that the date asks for, and the last date of all stays open.
-- R85: confiscated gas is told on a day whose closing forfeits. Every other kind may have any day.
unfoldable pub wrong_day : Bool → List Date → Entry → Bool
wrong_day touched hs e =
    kinds.lookup e.kind
    ((kinds.TERMS, not (first_of_gas_year e.date) || touched)
    ∷ (kinds.ENROL, not (first_of_gas_year e.date))
    ∷ (kinds.MEASURE, not (on_measurement_day hs e.date))
    ∷ (kinds.CLOSE_DAY, last_of_month e.date || last_date e.date)
    ∷ (kinds.CLOSE_MONTH, not (last_of_month e.date) || last_date e.date)
    ∷ (kinds.CONFISCATED, not (confiscation_day e.date))
    ∷ [])
    false

-- R112: the first day on which a new ledger has letters alone.
abbrev pub letters_alone : Date
letters_alone = date_of 2027 (record { 0 = 4 }) 1

-- R112: 36 for a TRANSFER in a new ledger from that day on. An old ledger has no letters, and keeps its transfers.
unfoldable pub retired : Bool → Entry → Bool
retired new e = eqb e.kind kinds.TRANSFER && (new && not (before e.date letters_alone))
