pub mod Walks
pub mod Steps
pub mod Rooted
pub mod Distances
pub mod Trails
pub mod TrailLaws
pub mod Queue
