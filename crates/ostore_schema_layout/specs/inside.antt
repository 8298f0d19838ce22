pub mod Gives
pub mod Spaced
pub mod PointersLeft
