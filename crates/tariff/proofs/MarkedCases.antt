-- Each case is computed: the definitions, opened, give the numbers that the case states.
use mathlib.Core.Path.{refl}
use Rattle.tariff.specs.Amounts.{positive_part, inward, opposite, less, below, gap, percent}
use Rattle.tariff.specs.Months.{february, march, april, november, december, same_month, gas_month, winter, mmbq, minimum}
use Rattle.tariff.specs.Dates.{divides, leap, lengths, month_length, total, day_number, weekday}
use Rattle.tariff.specs.Holidays.{business_day, first_business_day, measurement_day, named}
use Rattle.tariff.specs.Terms.{terms_in_range, mddq_of, bcq_of, capacity_of}
use Rattle.tariff.specs.Enrol.{stays_on_fbs, opening_too_high}
use Rattle.tariff.specs.Delivery.{retained, days_of_injection, breaks_v1, share_of}
use Rattle.tariff.specs.Steps.{step_of, is_over, is_under, crosses, measured}
use Rattle.tariff.specs.Closing.{breaks_v7, cash_of, excess_over, carry_of}
use Rattle.tariff.specs.Bill.{cash_in_charge}
use Rattle.tariff.specs.MarkedCases.{MarkedCases}

pub all_nine : MarkedCases
unfolding positive_part inward opposite less below gap percent february march april november december same_month gas_month winter mmbq minimum divides leap lengths month_length total day_number weekday named business_day first_business_day measurement_day terms_in_range mddq_of bcq_of capacity_of stays_on_fbs opening_too_high retained days_of_injection breaks_v1 share_of step_of is_over is_under crosses measured breaks_v7 cash_of excess_over carry_of cash_in_charge
all_nine =
    record {
      header = (refl, refl, refl);
      case1 = (refl, refl, refl, refl);
      case2 = (refl, refl);
      case3 = (refl, refl);
      case4 = (refl, refl);
      case5 = (refl, refl, refl, refl);
      case6 = (refl, refl, refl, refl);
      case7 = refl;
      case8 = refl;
      case9 = refl;
      carry = (refl, refl);
    }
