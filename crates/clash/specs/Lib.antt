pub mod Clashes
pub mod Sharing
pub mod Laws
