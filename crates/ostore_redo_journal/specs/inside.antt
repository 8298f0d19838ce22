pub mod Room
pub mod Bytes
pub mod Steps
