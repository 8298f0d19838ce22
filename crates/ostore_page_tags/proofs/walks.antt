pub mod RowLaws
pub mod NthLaws
pub mod PartedRows
