pub mod FirstFaults
pub mod Numbering
pub mod ReaderLaws
pub mod ParsedLaws
