pub mod Steps
pub mod Places
pub mod Exact
pub mod Ahead
pub mod Turns
