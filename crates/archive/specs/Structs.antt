-- The structs that definitions speak of, as the code declares them.
pub use Rattle.tariff.specs.declared.amounts.Units.{Units}
pub use Rattle.tariff.specs.declared.dates.Date.{Date}
pub use Rattle.ledger.specs.declared.state.Ledger.{Ledger}
pub use Rattle.archive.specs.declared.answers.Checked.{Checked}
pub use Rattle.archive.specs.declared.answers.Place.{Place}
pub use Rattle.archive.specs.declared.replaying.Figures.{Figures}
pub use Rattle.archive.specs.declared.replaying.Replay.{Replay}
pub use Rattle.archive.specs.declared.answers.Written.{Written}
