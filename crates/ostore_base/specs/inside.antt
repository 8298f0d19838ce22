pub mod Recorded
pub mod DiskLaws
