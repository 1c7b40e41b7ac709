-- Laws that several proofs use: of the integers and their order, of doubles by their exact values, of doubles that are whole, of the whole part and the search for it.
pub mod Integers
pub mod Orders
pub mod Values
pub mod WholeDoubles
pub mod WholeParts
pub mod Halving
