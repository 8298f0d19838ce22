pub mod RowFit
