pub mod Exact
pub mod Ahead
pub mod Turns
