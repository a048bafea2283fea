pub mod Reasons
pub mod Composed
pub mod Statements
pub mod Reading
pub mod Stops
