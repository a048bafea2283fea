pub mod Missing
pub mod Starting
pub mod Expanding
pub mod Looking
pub mod Completing
pub mod SteppingBack
