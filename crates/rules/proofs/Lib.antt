pub mod Finds
pub mod Highest
pub mod Adds
pub mod Lawful
pub mod Covers
