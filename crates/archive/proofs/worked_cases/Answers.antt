-- Every case but one is computed from the definitions. A list of 1,201 closings is too long for that: each of its entries is a section of its own, whatever their number.
use Prim.Native.Nat.{ℕ, zero, suc, ◌+◌, ◌*◌, ◌/◌, ◌%◌, ◌<◌}
use mathlib.Core.Path.{◌≡◌, refl, ap, ◌∙◌}
use mathlib.Core.Bool.{Bool, false, true}
use mathlib.Core.List.{List, ◌∷◌, ◌++◌, map}
use native.Mathlib.Omega.{arith}
use borrow.Author.Tests.{lt-ltb}
use lib.ListN.{length, replicate, length-replicate}
use Rattle.tariff.specs.Amounts.{within, amount_of, more, less, within_mills, above, below, percent}
use Rattle.tariff.specs.Months.{same_month, april, gas_month, minimum, maximum}
use Rattle.tariff.specs.Dates.{divides, leap, lengths, month_length, real, same_date, before, is_on, first_of_gas_year}
use Rattle.tariff.specs.Holidays.{all_leave_one, held_dates, holidays_in_range, stored_dates}
use Rattle.tariff.specs.Terms.{terms_in_range, mddq_of, bcq_of, capacity_of}
use Rattle.tariff.specs.Enrol.{stays_on_fbs, opening_too_high}
use Rattle.tariff.specs.Limits.{above_maximum, below_minimum}
use Rattle.tariff.specs.Steps.{step_of, first_step}
use Rattle.tariff.specs.Bill.{prices_in_range}
use Rattle.ledger.specs.Checks.{verdict}
use Rattle.ledger.specs.Kinds.{lookup, kind_of}
use Rattle.ledger.specs.Entries.{byte_at, half_at, word_at, entry_of, terms_of, prices_of, process_only, wishes}
use Rattle.ledger.specs.Forms.{account_too_high, unused_set, some_units, words_in_range, wrong_transfer, field_checks, entry_checks, entry_number, form_number}
use Rattle.ledger.specs.State.{no_totals, no_month, no_today, nobody, fresh, account_at, held_in, as_open, with_bank, with_measure, with_capacity, with_account}
use Rattle.ledger.specs.Ranges.{totals_in_range, step_in_range, notice_in_range, account_in_range, every_account, in_range}
use Rattle.ledger.specs.Answers.{quiet, plain, refused, settle}
use Rattle.ledger.specs.Terms.{reworked, terms_next, terms_checks, post_terms}
use Rattle.ledger.specs.Enrol.{new_account, enrolled, enrol_checks, enrolment}
use Rattle.ledger.specs.Gas.{after_giving, after_taking, giving_checks, taking_checks, giving, taking}
use Rattle.ledger.specs.Transfer.{giver, receiver, handing_checks, transfer_checks, post_transfer}
use Rattle.ledger.specs.Days.{retired, wrong_day}
use Rattle.ledger.specs.Posting.{standing_checks, admission, post_several, change_of, stored, post_kind, post_entry, posted}
use Rattle.ledger.specs.Panel.{open_bank, open_banks, panel_of}
use Rattle.archive.specs.Words.{bytes_of}
use Rattle.archive.specs.Entries.{first_entries, entries_of, closes_month, finding, first_refusal}
use Rattle.archive.specs.Layout.{joined, sections_of, concatenated, header, directory, body_at, packed, archive_of}
use Rattle.archive.specs.Writing.{list_checked, too_large, unwritten, written, output_after}
use Rattle.archive.specs.Reading.{section_count, opens_as, right_opening, is_new, wrong_header, pair_at, pairs_from, pairs_of, right_length, right_pairs, right_directory, part_at, parts_of, misplaced, number_in, numbers_in, numbers_of, checked, nowhere, place_of, section_at, list_of}
use Rattle.archive.specs.Replay.{list_in, entries_in, fresh_for, count_of, as_accepted, as_refused, replayed, figures_of}
use Rattle.archive.specs.WorkedCases.{closings, list, transfer, two_suppliers, WorkedCases}
use Rattle.ledger.specs.MarkedCases.{close_month}
use Rattle.archive.proofs.worked_cases.Goals as goal

-- ---- closings of months, as many as there may be

length_closings : (n : ℕ) → length (closings n) ≡ 32 * n
length_closings zero = refl
length_closings (suc n) = omega (arith, length_closings n)

entries_closings : (n : ℕ) → entries_of (closings n) ≡ replicate n (close_month 0 0 0 0)
unfolding entries_of first_entries
entries_closings n =
    let whole : length (closings n) / 32 ≡ n = omega (arith, length_closings n) in
    ap (λ (k : ℕ). first_entries k (closings n)) whole ∙ first n
  where
    first : (n : ℕ) → first_entries n (closings n) ≡ replicate n (close_month 0 0 0 0)
    first zero = refl
    first (suc n) = ap (λ (es : List (List ℕ)). close_month 0 0 0 0 ∷ es) (first n)

sections_closings : (n : ℕ) → sections_of (replicate n (close_month 0 0 0 0)) ≡ replicate n (close_month 0 0 0 0)
unfolding sections_of closes_month entry_of byte_at
sections_closings zero = refl
sections_closings (suc n) = ap (λ (ss : List (List ℕ)). close_month 0 0 0 0 ∷ ss) (sections_closings n)

right_closings : (n i : ℕ) → first_refusal i (map (form_number false) (replicate n (close_month 0 0 0 0))) ≡ finding 0 0
unfolding divides leap lengths month_length real prices_in_range verdict byte_at half_at word_at entry_of lookup kind_of prices_of account_too_high unused_set words_in_range wrong_transfer field_checks entry_checks entry_number form_number finding first_refusal
right_closings zero i = refl
right_closings (suc n) i = right_closings n (i + 1)

too_many : (n room : ℕ) → 1200 < n → written false (closings n) room ≡ unwritten 11 0
unfolding written list_checked too_large finding
too_many n room h =
    let whole : length (closings n) % 32 ≡ 0 = omega (arith, length_closings n) in
    rw (whole, entries_closings n, right_closings n 0, sections_closings n, length-replicate n (close_month 0 0 0 0), lt-ltb 1200 n h)

worked : WorkedCases
unfolding within amount_of more less within_mills above below percent same_month april gas_month minimum maximum divides leap lengths month_length real same_date before is_on first_of_gas_year all_leave_one held_dates holidays_in_range stored_dates terms_in_range mddq_of bcq_of capacity_of stays_on_fbs opening_too_high above_maximum below_minimum step_of first_step prices_in_range verdict byte_at half_at word_at entry_of lookup kind_of terms_of prices_of process_only wishes account_too_high unused_set some_units words_in_range wrong_transfer field_checks entry_checks entry_number form_number no_totals no_month no_today nobody fresh account_at held_in as_open with_bank with_measure with_capacity with_account totals_in_range step_in_range notice_in_range account_in_range every_account in_range quiet plain refused settle reworked terms_next terms_checks post_terms new_account enrolled enrol_checks enrolment giver receiver handing_checks transfer_checks post_transfer after_giving after_taking giving_checks taking_checks giving taking standing_checks retired wrong_day admission post_several change_of stored post_kind post_entry posted open_bank open_banks panel_of bytes_of first_entries entries_of closes_month finding first_refusal joined sections_of concatenated header directory body_at packed archive_of list_checked too_large unwritten written output_after section_count opens_as right_opening is_new wrong_header pair_at pairs_from pairs_of right_length right_pairs right_directory part_at parts_of misplaced number_in numbers_in numbers_of checked nowhere place_of section_at list_of list_in entries_in fresh_for count_of as_accepted as_refused replayed figures_of
worked =
    record {
      answer = either_way;
      output = refl;
      new_output = refl;
      read = refl;
      section = refl;
      new_read = (refl, refl, refl);
      figures = refl;
      number8 = (refl, refl);
      number9 = refl;
      number10 = refl;
      number11 = too_many 1201 100000 (omega arith);
      number12 = (refl, refl);
      number13 = (refl, refl);
      tenth_kind = (refl, refl, refl, refl);
      eleventh_kind = (refl, refl);
      twelfth_kind = (refl, refl, refl, refl, refl, refl);
      transfer_retired = (retired_either_way, refl, refl, refl, refl);
      refused_new = (refl, refl, refl);
    }
  where
    either_way : (new : Bool) → written new list 81 ≡ record { number = 0; index = 0; length = 80 }
    either_way true = refl
    either_way false = refl

    retired_either_way : (new : Bool) → written new (two_suppliers ++ transfer) 144 ≡ record { number = 0; index = 0; length = 144 }
    retired_either_way true = refl
    retired_either_way false = refl

pub returns : goal.returns
returns c = worked
