pub mod Lowest
pub mod Filled
pub mod Sheets
pub mod Answers
pub mod Lawful
pub mod Asks
pub mod Sites
