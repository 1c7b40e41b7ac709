-- Who can take gas: which accounts could receive it, in which order they stand, the answer, and what holds of it.
pub mod Structs
pub mod Receivers
pub mod Order
pub mod Listing
pub mod EveryList
pub mod Transfers
pub mod WorkedCases
