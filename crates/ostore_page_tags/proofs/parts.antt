pub mod CellLaws
pub mod ApartLaws
pub mod SamePages
