pub mod Looks
pub mod Taking
