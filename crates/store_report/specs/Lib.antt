pub mod Listing
pub mod Images
pub mod Names
