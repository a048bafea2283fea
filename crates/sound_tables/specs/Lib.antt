pub mod Sound
pub mod Extends
