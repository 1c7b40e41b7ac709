-- What the door for firmware adds of its own: lent cells, and two questions without a ledger.
pub mod Cells
pub mod Amounts
pub mod Limits
