pub mod Spells
pub mod Cuts
pub mod Sets
