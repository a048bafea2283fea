pub mod Layout
pub mod Reading
pub mod ReadingLaws
pub mod Scan
pub mod Laws
