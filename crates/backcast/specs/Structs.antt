-- The structs that definitions speak of, as the code declares them.
pub use Rattle.backcast.specs.declared.curves.LoadCurve.{LoadCurve}
pub use Rattle.backcast.specs.declared.answers.BackCast.{BackCast}
pub use Rattle.backcast.specs.declared.answers.NoBackCast.{NoBackCast}
pub use Rattle.tariff.specs.declared.amounts.Quantity.{Quantity}
