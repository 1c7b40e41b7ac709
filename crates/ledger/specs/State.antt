-- What a ledger remembers between postings, and how one part of it is replaced.
use Rattle.std.specs.Prelude.{ℕ, pos, Bool, true, false, List, [], get_or, set, replicate}
use Rattle.ledger.specs.Structs.{Account, Capacity, Date, Dth, Holidays, Ledger, Mcf, Mills, Notice, Quantity, Step, Terms, ThisMonth, Today, Totals, Units}
use Rattle.tariff.specs.Terms.{terms_from}
use Rattle.tariff.specs.Holidays.{held_dates, stored_dates}

-- R16: an account from its parts.
abbrev pub account : Bool → Bool → Today → Units → Dth → Step → Capacity → ThisMonth → Quantity → Mills → ℕ → Account
account opened excused today bank mdq step capacity month carry owed days =
    record {
      opened = opened;
      excused = excused;
      today = today;
      bank = bank;
      mdq = mdq;
      step = step;
      capacity = capacity;
      month = month;
      carry = carry;
      owed = owed;
      violation_days = days;
    }

-- R16: the numbers of an account's month.
abbrev pub totals : Units → Quantity → Quantity → Quantity → Quantity → Mcf → Totals
totals net sales purchases ins outs usage =
    record { net = net; sales = sales; purchases = purchases; cash_ins = ins; cash_outs = outs; usage = usage }

-- R16: the ledger around them.
abbrev pub ledger : Bool → Bool → Bool → Date → Terms → Holidays → List Account → Ledger
ledger begun touched new date terms holidays accounts =
    record { begun = begun; touched = touched; is_new = new; date = date; terms = terms; holidays = holidays; accounts = accounts }

-- R17: a month in which nothing has happened yet; each CLOSE MONTH begins one (R44).
unfoldable pub no_totals : Totals
no_totals = totals (record { 0 = pos 0 }) (record { 0 = 0 }) (record { 0 = 0 }) (record { 0 = 0 }) (record { 0 = 0 }) (record { 0 = 0 })

unfoldable pub no_month : ThisMonth
unfolding no_totals
no_month = record { totals = no_totals; measured = false; metered = false }

-- R16: the notice that stands of an account: its side, whom it names, and how much gas.
abbrev pub notice : Bool → Bool → ℕ → ℕ → Notice
notice stands takes other units = record { stands = stands; takes = takes; other = other; units = record { 0 = units } }

-- R17: none stands, and every member is 0.
abbrev pub no_notice : Notice
no_notice = notice false false 0 0

-- R17: a day without its delivery, of which nothing confiscated was told (R85), and without a letter (R108); each closing begins one (R19).
unfoldable pub no_today : Today
no_today = record { delivered = false; v1 = false; v2 = false; confiscated = false; confiscation = record { 0 = 0 }; notice = no_notice }

-- R17: an account that is not open, every number 0 and every mark off.
unfoldable pub nobody : Account
unfolding no_totals no_month no_today
nobody =
    account false false no_today (record { 0 = pos 0 }) (record { 0 = 0 }) (record { k = 0; pending = 0; over = 0; under = 0 })
    (record { mddq = record { 0 = 0 }; bcq = record { 0 = 0 } }) no_month (record { 0 = 0 }) (record { 0 = pos 0 }) 0

-- R17: the ledger before its first posting, told whether it is old or new (R84).
unfoldable pub fresh : Bool → Ledger
fresh new =
    ledger false false new (record { year = 0; month = record { 0 = 0 }; day = 0 }) (terms_from 0 0 0 0 0 0) (stored_dates []) (replicate 16 nobody)

-- R16: account i; beyond the sixteenth there is nobody.
unfoldable pub account_at : Ledger → ℕ → Account
account_at l i = get_or l.accounts i nobody

-- R101: the dates that the ledger holds as holidays.
unfoldable pub held_in : Ledger → List Date
held_in l = held_dates l.holidays

-- ---- one part of an account replaced

-- R20: opened, which nothing takes back.
unfoldable pub as_open : Account → Account
as_open a = account true a.excused a.today a.bank a.mdq a.step a.capacity a.month a.carry a.owed a.violation_days

-- R16: the excuse, what the day knows, the bank, MDQ and step, MDDQ and BCQ, or the month.
unfoldable pub with_excuse : Account → Bool → Account
with_excuse a excused = account a.opened excused a.today a.bank a.mdq a.step a.capacity a.month a.carry a.owed a.violation_days

unfoldable pub with_today : Account → Today → Account
with_today a today = account a.opened a.excused today a.bank a.mdq a.step a.capacity a.month a.carry a.owed a.violation_days

unfoldable pub with_bank : Account → Units → Account
with_bank a bank = account a.opened a.excused a.today bank a.mdq a.step a.capacity a.month a.carry a.owed a.violation_days

unfoldable pub with_measure : Account → Dth → Step → Account
with_measure a mdq step = account a.opened a.excused a.today a.bank mdq step a.capacity a.month a.carry a.owed a.violation_days

unfoldable pub with_capacity : Account → Capacity → Account
with_capacity a capacity = account a.opened a.excused a.today a.bank a.mdq a.step capacity a.month a.carry a.owed a.violation_days

unfoldable pub with_month : Account → ThisMonth → Account
with_month a month = account a.opened a.excused a.today a.bank a.mdq a.step a.capacity month a.carry a.owed a.violation_days

-- R16: carry and owed, which CLOSE MONTH sets together (R54, R55).
unfoldable pub with_carry : Account → Quantity → Mills → Account
with_carry a carry owed = account a.opened a.excused a.today a.bank a.mdq a.step a.capacity a.month carry owed a.violation_days

-- R16: the count of violation days.
unfoldable pub with_days : Account → ℕ → Account
with_days a days = account a.opened a.excused a.today a.bank a.mdq a.step a.capacity a.month a.carry a.owed days

-- R16: the notice that stands, the rest of the day staying.
unfoldable pub with_notice : Account → Notice → Account
with_notice a n =
    with_today a
    (record {
      delivered = a.today.delivered;
      v1 = a.today.v1;
      v2 = a.today.v2;
      confiscated = a.today.confiscated;
      confiscation = a.today.confiscation;
      notice = n;
    })

-- R16: the month's numbers, its marks staying.
unfoldable pub with_totals : Account → Totals → Account
with_totals a totals = with_month a (record { totals = totals; measured = a.month.measured; metered = a.month.metered })

-- R19: storing an account is accepting, so the day is touched.
unfoldable pub with_account : Ledger → ℕ → Account → Ledger
with_account l i a = ledger l.begun true l.is_new l.date l.terms l.holidays (set l.accounts i a)

-- R102: and so is holding other dates.
unfoldable pub with_holidays : Ledger → Holidays → Ledger
with_holidays l holidays = ledger l.begun true l.is_new l.date l.terms holidays l.accounts
