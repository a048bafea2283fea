pub mod Spelled
pub mod Keywords
pub mod Flags
pub mod Passages
pub mod Arrows
pub mod Letters
