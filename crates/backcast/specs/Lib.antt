-- The back-cast from the weather: what doubles mean, the load, the answer, and what holds of it.
pub mod Vocabulary
pub mod Structs
pub mod Doubles
pub mod Load
pub mod Answers
pub mod GreatestWhole
pub mod ExactCase
pub mod WorkedCases
