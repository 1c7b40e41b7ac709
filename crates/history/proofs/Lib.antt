-- The algebra of sums, which letters stand and which met, what a line counts, and then every list.
pub mod Sums
pub mod Letters
pub mod Pairs
pub mod Lines
pub mod Steps
pub mod Histories
