-- The structs that definitions speak of, as the code declares them.
pub use Rattle.tariff.specs.declared.amounts.Quantity.{Quantity}
pub use Rattle.tariff.specs.declared.amounts.Units.{Units}
pub use Rattle.tariff.specs.declared.months.Month.{Month}
pub use Rattle.ledger.specs.declared.state.Account.{Account}
pub use Rattle.ledger.specs.declared.state.Ledger.{Ledger}
pub use Rattle.partners.specs.declared.answers.PartnerList.{PartnerList}
pub use Rattle.partners.specs.declared.order.Partner.{Partner}
pub use Rattle.ledger.specs.declared.refusals.Refusal.{Refusal}
