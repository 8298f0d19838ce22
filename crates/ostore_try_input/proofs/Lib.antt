pub mod InputSaid
