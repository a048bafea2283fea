pub mod Typing
pub mod Held
pub mod Ranks
pub mod Laws
