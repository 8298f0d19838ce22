pub mod Stores
pub mod Seats
pub mod Turning
pub mod AtServer
