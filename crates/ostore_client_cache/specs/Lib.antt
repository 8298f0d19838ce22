pub mod Entries
pub mod Caches
pub mod Releases
pub mod inside
