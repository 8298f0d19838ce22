pub mod Sums
pub mod Held
pub mod Claimed
pub mod Adding
