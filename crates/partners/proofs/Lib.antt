-- The lemmas that several proofs go by.
pub mod Numbers
pub mod Placing
pub mod Orders
pub mod Ordered
pub mod Members
