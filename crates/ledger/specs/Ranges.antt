-- The range of every number in a ledger (R16); one outside tells of a damaged ledger (20), or of a posting that goes too far (29).
use Rattle.std.specs.Prelude.{Bool, true, not, ◌&&◌, ◌||◌, leb, ltb, List, [], ◌∷◌}
use Rattle.ledger.specs.Structs.{Account, Ledger, Notice, Step, Totals}
use Rattle.tariff.specs.Bounds.{most_units, most_bank, most_overdraft, most_mdq, most_bcq, most_mcf, most_owed, most_days}
use Rattle.tariff.specs.Amounts.{within, within_mills}
use Rattle.tariff.specs.Dates.{real}
use Rattle.tariff.specs.Holidays.{holidays_in_range}
use Rattle.tariff.specs.Terms.{terms_in_range}
use Rattle.ledger.specs.Forms.{some_units}

-- R18: the month's numbers; of them only net has a sign.
unfoldable pub totals_in_range : Totals → Bool
totals_in_range m =
    within most_bank most_bank m.net
    && leb m.sales.0 most_bank
    && leb m.purchases.0 most_bank
    && leb m.cash_ins.0 most_bank
    && leb m.cash_outs.0 most_bank
    && leb m.usage.0 most_mcf

-- R18: an account that is not open has no step, so k and pending are not asked of it.
unfoldable pub step_in_range : Bool → Step → Bool
step_in_range opened s =
    (not opened || (leb 1 s.k && leb s.k 100 && (leb 1 s.pending && leb s.pending 100)))
    && (leb s.over 2 && leb s.under 2)

-- R18: a notice that stands names one of the sixteen and tells of some gas; where none stands, the rest means nothing and may be anything.
unfoldable pub notice_in_range : Notice → Bool
notice_in_range n = not n.stands || (ltb n.other 16 && some_units n.units.0)

-- R18: all numbers of an account, open or not.
unfoldable pub account_in_range : Account → Bool
account_in_range a =
    within most_overdraft most_bank a.bank
    && totals_in_range a.month.totals
    && step_in_range a.opened a.step
    && (leb a.mdq.0 most_mdq && leb a.capacity.mddq.0 most_mdq && leb a.capacity.bcq.0 most_bcq)
    && leb a.carry.0 most_bank
    && within_mills most_owed a.owed
    && leb a.violation_days most_days
    && leb a.today.confiscation.0 most_units
    && notice_in_range a.today.notice

-- R18: whether all accounts pass a test.
unfoldable pub every_account : (Account → Bool) → List Account → Bool
every_account p [] = true
every_account p (a ∷ rest) = p a && every_account p rest

-- R18: before the ledger has begun, date and terms mean nothing and may be anything. The holidays are asked even then (R103).
unfoldable pub in_range : Ledger → Bool
in_range l =
    (not l.begun || (real l.date && terms_in_range l.terms))
    && holidays_in_range l.holidays
    && every_account account_in_range l.accounts
