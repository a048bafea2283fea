pub mod Begins
pub mod Entries
pub mod Holdings
pub mod Model
