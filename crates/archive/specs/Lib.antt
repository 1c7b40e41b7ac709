-- The archive: its bytes, its writer and its reader, what its replay leaves, that both directions fit each other, and what old and new ones are.
pub mod Structs
pub mod Words
pub mod Entries
pub mod Layout
pub mod Writing
pub mod Reading
pub mod Faults
pub mod Replay
pub mod YearSheet
pub mod RoundTrips
pub mod OldAndNew
pub mod WorkedCases
