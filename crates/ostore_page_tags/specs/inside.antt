pub mod RowsFit
pub mod WithRow
pub mod PartsRows
pub mod AreBytes
