pub mod Quiet
pub mod Steps
pub mod Frames
