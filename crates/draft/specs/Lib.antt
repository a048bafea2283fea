pub mod Endings
pub mod Breaks
pub mod Composing
pub mod Settling
pub mod Phases
pub mod Drafts
