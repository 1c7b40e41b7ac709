-- The structs that definitions speak of, as the code declares them.
pub use Rattle.tariff.specs.declared.amounts.Charge.{Charge}
pub use Rattle.tariff.specs.declared.amounts.Dth.{Dth}
pub use Rattle.tariff.specs.declared.amounts.Mcf.{Mcf}
pub use Rattle.tariff.specs.declared.amounts.Mills.{Mills}
pub use Rattle.tariff.specs.declared.amounts.Quantity.{Quantity}
pub use Rattle.tariff.specs.declared.amounts.Units.{Units}
pub use Rattle.tariff.specs.declared.bill.Prices.{Prices}
pub use Rattle.tariff.specs.declared.bill.Totals.{Totals}
pub use Rattle.tariff.specs.declared.dates.Date.{Date}
pub use Rattle.tariff.specs.declared.holidays.Holidays.{Holidays}
pub use Rattle.tariff.specs.declared.months.Month.{Month}
pub use Rattle.tariff.specs.declared.steps.Step.{Step}
pub use Rattle.tariff.specs.declared.terms.Capacity.{Capacity}
pub use Rattle.tariff.specs.declared.terms.Terms.{Terms}
