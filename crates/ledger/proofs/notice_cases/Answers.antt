-- The cases are plain numbers, so each is computed from the first definition to the last; those that a case reaches are opened for it.
use mathlib.Core.Path.{refl}
use mathlib.Core.Bool.{Bool, false, true}
use Rattle.tariff.specs.Amounts.{nothing, amount_of, sum, more, less, gap, opposite, positive_part, inward, outward, above, below, within, together, percent, no_money, charged, credited, added, within_mills}
use Rattle.tariff.specs.Months.{january, february, march, april, june, august, november, december, same_month, gas_month, winter, minimum, maximum, mmbq, withdrawal_maximum, withdrawal_minimum}
use Rattle.tariff.specs.Dates.{divides, leap, lengths, month_length, real, same_date, before, is_on, first_of_gas_year, confiscation_day, last_of_month, last_date, day_after, total, day_number, weekday}
use Rattle.tariff.specs.Holidays.{held_dates, stored_dates, named, business_day, first_business_day, measurement_day, on_measurement_day, all_leave_one, holidays_in_range, kept_from}
use Rattle.tariff.specs.Terms.{terms_in_range, mddq_of, bcq_of, capacity_of}
use Rattle.tariff.specs.Enrol.{stays_on_fbs, opening_too_high}
use Rattle.tariff.specs.Delivery.{retained, days_of_injection, breaks_v1, share_of, breaks_v2}
use Rattle.tariff.specs.Limits.{above_maximum, below_minimum}
use Rattle.tariff.specs.Steps.{step_of, first_step, is_over, is_under, crosses, measured, settled_step, falls}
use Rattle.tariff.specs.Closing.{breaks_v3, withdrawal_limit, breaks_v4, breaks_v5, breaks_v6, breaks_v7, breaks_v8, cash_of, ends_excuse, excess_over, carry_of, forfeit_of, forfeit_under, mask_of}
use Rattle.tariff.specs.Bill.{prices_in_range, cash_in_charge, cash_out_credit, at_inventory_cost, bill_of}
use Rattle.ledger.specs.Checks.{verdict}
use Rattle.ledger.specs.Kinds.{lookup, kind_of}
use Rattle.ledger.specs.Entries.{byte_at, half_at, word_at, entry_of, terms_of, prices_of, process_only, wishes, writer_takes}
use Rattle.ledger.specs.Forms.{account_too_high, unused_set, some_units, words_in_range, wrong_transfer, field_checks, entry_checks, entry_number}
use Rattle.ledger.specs.State.{no_totals, no_month, no_today, nobody, fresh, account_at, held_in, as_open, with_excuse, with_today, with_bank, with_month, with_totals, with_carry, with_days, with_measure, with_capacity, with_account, with_notice}
use Rattle.ledger.specs.Ranges.{totals_in_range, step_in_range, notice_in_range, account_in_range, every_account, in_range}
use Rattle.ledger.specs.Answers.{quiet, plain, refused, settle}
use Rattle.ledger.specs.Terms.{reworked, terms_next, terms_checks, post_terms}
use Rattle.ledger.specs.Enrol.{new_account, enrolled, enrol_checks, enrolment}
use Rattle.ledger.specs.Deliver.{with_net, delivered_today, delivered, amount_under, after_delivery, deliver_checks, delivery}
use Rattle.ledger.specs.Gas.{after_giving, after_taking, giving_checks, taking_checks, giving, taking}
use Rattle.ledger.specs.Transfer.{giver, receiver, handing_checks, transfer_checks, post_transfer}
use Rattle.ledger.specs.Notice.{written, awaits, meets, exchanging, exchange_checks, writer_after, other_after, writer_waiting, notice_checks, exchanged, waiting, post_notice}
use Rattle.ledger.specs.Confiscated.{confiscated_today, after_confiscation, confiscation_checks, confiscation}
use Rattle.ledger.specs.Closing.{limit_of, violations_of, cash_at, with_cash, excused_still, day_end, after_day, bill_at, next_capacity, excess_at, forfeit_at, month_end, after_month, day_closing, month_closing, left_alone, closing_of, after_closing, report_of, ready, stays_in_range}
use Rattle.ledger.specs.Closings.{closing_checks, holidays_after, closed, post_closing}
use Rattle.ledger.specs.Days.{retired, wrong_day}
use Rattle.ledger.specs.Posting.{standing_checks, admission, post_several, change_of, stored, post_kind, post_entry, posted}
use Rattle.ledger.specs.Panel.{bank_of, open_bank}
use Rattle.ledger.specs.NoticeCases.{Clears, NoticeCases, close_day, close_month, june_ends, mid_june, three_waiting}
use Rattle.ledger.proofs.notice_cases.Goals as goal

all_cases : NoticeCases
unfolding nothing amount_of sum more less gap opposite positive_part inward outward above below within together percent no_money charged credited added within_mills january february march april june august november december same_month gas_month winter minimum maximum mmbq withdrawal_maximum withdrawal_minimum divides leap lengths month_length real same_date before is_on first_of_gas_year confiscation_day last_of_month last_date day_after total day_number weekday held_dates stored_dates named business_day first_business_day measurement_day on_measurement_day all_leave_one holidays_in_range kept_from terms_in_range mddq_of bcq_of capacity_of stays_on_fbs opening_too_high retained days_of_injection breaks_v1 share_of breaks_v2 above_maximum below_minimum step_of first_step is_over is_under crosses measured settled_step falls breaks_v3 withdrawal_limit breaks_v4 breaks_v5 breaks_v6 breaks_v7 breaks_v8 cash_of ends_excuse excess_over carry_of forfeit_of forfeit_under mask_of prices_in_range cash_in_charge cash_out_credit at_inventory_cost bill_of verdict byte_at half_at word_at entry_of lookup kind_of terms_of prices_of process_only wishes writer_takes account_too_high unused_set some_units words_in_range wrong_transfer field_checks entry_checks entry_number no_totals no_month no_today nobody fresh account_at held_in as_open with_excuse with_today with_bank with_month with_totals with_carry with_days with_measure with_capacity with_account with_notice totals_in_range step_in_range notice_in_range account_in_range every_account in_range quiet plain refused settle reworked terms_next terms_checks post_terms new_account enrolled enrol_checks enrolment with_net delivered_today delivered amount_under after_delivery deliver_checks delivery giver receiver transfer_checks handing_checks post_transfer written awaits meets exchanging exchange_checks writer_after other_after writer_waiting notice_checks exchanged waiting post_notice after_giving after_taking giving_checks taking_checks giving taking confiscated_today after_confiscation confiscation_checks confiscation limit_of violations_of cash_at with_cash excused_still day_end after_day bill_at next_capacity excess_at forfeit_at month_end after_month day_closing month_closing left_alone closing_of after_closing report_of retired wrong_day ready stays_in_range closing_checks holidays_after closed post_closing standing_checks admission post_several change_of stored post_kind post_entry posted open_bank bank_of
all_cases =
    record {
      taker_second = ((refl, refl), (refl, refl));
      giver_second = ((refl, refl), (refl, refl));
      once_more = (refl, refl);
      other_quantity = ((refl, refl), (refl, refl));
      same_side = ((refl, refl), (refl, refl));
      third_party = ((refl, refl), (refl, refl), (refl, refl));
      own_stands = ((refl, refl), (refl, refl), (refl, refl));
      at_limit = ((refl, refl), (refl, refl));
      past_limit = ((refl, refl), (refl, refl), (refl, refl), (refl, refl));
      after_limit = ((refl, refl), (refl, refl));
      quantities = ((refl, refl), (refl, refl));
      no_limit = ((refl, refl), (refl, refl));
      members = ((refl, refl), (refl, refl));
      meanwhile = ((refl, refl), refl, refl, refl, refl);
      cleared = (by_day, by_month);
      next_day = (refl, refl);
      not_cleared = ((refl, refl), (refl, refl));
      enrolled = (refl, refl);
      transfers_end = ((refl, refl), (refl, refl), (refl, refl), (refl, refl), (refl, refl));
      transfers_stay = ((refl, refl), (refl, refl), (refl, refl), (refl, refl));
      retired_in_order = ((refl, refl), (refl, refl), (refl, refl), (refl, refl), (refl, refl), (refl, refl), (refl, refl), (refl, refl), (refl, refl));
      twice = ((refl, refl), (refl, refl));
      old = ((refl, refl), (refl, refl));
      wrong_forms = ((refl, refl), (refl, refl), (refl, refl), (refl, refl), (refl, refl), (refl, refl), (refl, refl), (refl, refl), (refl, refl), (refl, refl), (refl, refl));
      wrong_ledgers = ((refl, refl), (refl, refl), (refl, refl), (refl, refl), (refl, refl), (refl, refl), (refl, refl));
      out_of_range = ((refl, refl), (refl, refl), (refl, refl), (refl, refl), (refl, refl), (refl, refl));
      in_range = ((refl, refl), (refl, refl));
      marks_the_day = (refl, refl, refl, refl);
    }
  where
    by_day : (new : Bool) → Clears (three_waiting new mid_june) (close_day mid_june)
    by_day true = (refl, refl)
    by_day false = (refl, refl)

    by_month : (new : Bool) → Clears (three_waiting new june_ends) (close_month june_ends)
    by_month true = (refl, refl)
    by_month false = (refl, refl)

pub returns : goal.returns
returns c = all_cases
