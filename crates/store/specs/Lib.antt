pub mod Meaning
pub mod Answers
pub mod Number
pub mod Laws
pub mod Memory
pub mod MemoryLaws
pub mod Texts
