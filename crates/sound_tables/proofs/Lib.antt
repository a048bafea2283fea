pub mod Places
pub mod Tokens
pub mod Adds
pub mod Extends
