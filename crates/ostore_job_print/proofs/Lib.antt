pub mod PrintWords
pub mod CanonicalAgain
