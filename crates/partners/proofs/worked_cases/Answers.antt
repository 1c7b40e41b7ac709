-- The cases are plain numbers, so each is computed from the first definition to the last; all of them are opened for it.
use mathlib.Core.Path.{refl}
use Rattle.tariff.specs.Amounts.{more, less, gap, above, below, exceeds, within, percent, within_mills}
use Rattle.tariff.specs.Months.{gas_month, minimum, maximum, same_month}
use Rattle.tariff.specs.Dates.{before as earlier, divides, leap, lengths, month_length, real, same_date}
use Rattle.tariff.specs.Holidays.{all_leave_one, held_dates, holidays_in_range, stored_dates}
use Rattle.tariff.specs.Terms.{terms_in_range}
use Rattle.tariff.specs.Limits.{above_maximum, below_minimum}
use Rattle.ledger.specs.Checks.{verdict}
use Rattle.ledger.specs.Kinds.{lookup, kind_of}
use Rattle.ledger.specs.Entries.{byte_at, half_at, word_at, entry_of, terms_of, writer_takes}
use Rattle.ledger.specs.Forms.{account_too_high, unused_set, some_units, words_in_range, wrong_transfer, field_checks, entry_checks}
use Rattle.ledger.specs.State.{no_totals, no_month, no_today, nobody, account_at, held_in, with_bank, with_notice, with_today, with_account}
use Rattle.ledger.specs.Ranges.{totals_in_range, step_in_range, notice_in_range, account_in_range, every_account, in_range}
use Rattle.ledger.specs.Answers.{quiet, plain, refused, settle}
use Rattle.ledger.specs.Gas.{after_giving, after_taking, giving_checks, taking_checks, giving, taking}
use Rattle.ledger.specs.Transfer.{giver, receiver, handing_checks, transfer_checks, post_transfer}
use Rattle.ledger.specs.Days.{retired, wrong_day}
use Rattle.ledger.specs.Letters.{first_letter, first_posted, letter_today, second_letter, second_posted, transfer_today}
use Rattle.ledger.specs.Notice.{awaits, exchange_checks, exchanged, exchanging, meets, notice_checks, other_after, post_notice, waiting, writer_after, writer_waiting, written}
use Rattle.ledger.specs.Posting.{standing_checks, admission, post_several, post_kind, post_entry, posted}
use Rattle.partners.specs.Receivers.{takes, spares, could_receive}
use Rattle.partners.specs.Order.{headroom, partner_of, among_equals, comes_before, partner_at, before}
use Rattle.partners.specs.Listing.{placed, partners_below, partner_checks, answer, partners_of}
use Rattle.partners.specs.Transfers.{could_send, could_write}
use Rattle.partners.specs.WorkedCases.{WorkedCases}
use Rattle.partners.proofs.worked_cases.Goals as goal

all_cases : WorkedCases
unfolding more less gap above below exceeds within percent within_mills gas_month minimum maximum same_month earlier divides leap lengths month_length real same_date all_leave_one held_dates holidays_in_range stored_dates terms_in_range above_maximum below_minimum verdict lookup kind_of byte_at half_at word_at entry_of terms_of account_too_high unused_set some_units words_in_range wrong_transfer field_checks entry_checks no_totals no_month no_today nobody account_at held_in with_bank with_account totals_in_range step_in_range notice_in_range account_in_range every_account in_range quiet plain refused settle after_giving after_taking giving_checks taking_checks giving taking giver receiver transfer_checks handing_checks post_transfer retired wrong_day standing_checks admission post_several post_kind post_entry posted takes spares could_receive headroom partner_of among_equals comes_before partner_at before placed partners_below partner_checks answer partners_of transfer_today could_send letter_today first_letter second_letter first_posted second_posted awaits meets written writer_takes writer_waiting with_notice with_today exchanging exchange_checks writer_after other_after notice_checks exchanged waiting post_notice could_write
all_cases =
    record {
      usual = (refl, refl);
      none = (refl, refl);
      all_fifteen = refl;
      equals = refl;
      receiver = (refl, refl);
      seller = (refl, refl);
      others = refl;
      no_seller = (refl, refl);
      no_quantity = (refl, refl, refl, refl);
      out_of_range = refl;
      not_begun = refl;
      not_open = refl;
      in_their_order = (refl, refl, refl, refl);
      sent = (refl, refl, refl);
      retired = (refl, refl, refl, refl);
      written = (refl, refl, refl, refl, refl);
    }

pub returns : goal.returns
returns c = all_cases
