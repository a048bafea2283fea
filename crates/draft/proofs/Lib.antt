pub mod Breaking
pub mod Verdicts
