-- ENROL: a supplier's account begins, with a bank, an MDQ and what follows from it.
use Rattle.std.specs.Prelude.{not, List, [], ◌∷◌}
use Rattle.ledger.specs.Structs.{Account, Change, Dth, Entry, Quantity, Terms}
use Rattle.tariff.specs.Amounts.{amount_of}
use Rattle.tariff.specs.Terms.{capacity_of}
use Rattle.tariff.specs.Enrol.{stays_on_fbs, opening_too_high}
use Rattle.tariff.specs.Steps.{first_step}
use Rattle.ledger.specs.Checks.{Check, verdict}
use Rattle.ledger.specs.Entries.{process_only, wishes}
use Rattle.ledger.specs.State.{as_open, nobody, with_bank, with_capacity, with_measure}
use Rattle.ledger.specs.Ranges.{account_in_range}

-- R30: bank, MDQ, step, MDDQ and BCQ are given; all else starts from nothing, whatever the account held before.
unfoldable pub new_account : Terms → Dth → Quantity → Account
new_account t mdq opening =
    with_capacity (with_measure (with_bank (as_open nobody) (amount_of opening)) mdq (first_step mdq)) (capacity_of t (first_step mdq).k)

-- R30: the account that an entry opens.
unfoldable pub enrolled : Terms → Entry → Account
enrolled t e = new_account t (record { 0 = e.w1 }) (record { 0 = e.w2 })

-- R30: 24 if the account is open, 25 if the supplier stays on FBS (R28), 28 if the opening is too large for its new BCQ (R29), 29.
unfoldable pub enrol_checks : Terms → Account → Entry → List Check
enrol_checks t a e =
    (a.opened, 24)
    ∷ (stays_on_fbs (process_only e) (wishes e) (record { 0 = e.w1 }), 25)
    ∷ (opening_too_high (record { 0 = e.w2 }) (enrolled t e).capacity.bcq, 28)
    ∷ (not (account_in_range (enrolled t e)), 29)
    ∷ []

-- R30: the number, and the account to be stored where that is 0.
unfoldable pub enrolment : Terms → Account → Entry → Change
enrolment t a e = record { number = verdict (enrol_checks t a e); account = enrolled t e }
