pub mod Layout
pub mod LayoutLaws
pub mod Frame
pub mod Laws
