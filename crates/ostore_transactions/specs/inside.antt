pub mod Stopping
pub mod Going
