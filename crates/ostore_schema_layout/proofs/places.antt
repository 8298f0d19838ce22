pub mod LayoutLaws
pub mod PointerLaws
pub mod WalkLaws
