pub mod Kept
pub mod Releasing
pub mod Writing
pub mod Nothing
