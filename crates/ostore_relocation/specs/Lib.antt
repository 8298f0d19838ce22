pub mod Places
pub mod Pointers
pub mod Fitness
pub mod Forms
pub mod Reserving
pub mod Stores
pub mod inside
