pub mod Parts
pub mod Fronts
pub mod Copies
pub mod Shows
pub mod Bits
