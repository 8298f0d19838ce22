-- What the contracts of public calls rest on.
pub mod Spelling
pub mod Scripts
pub mod Runnable
pub mod TryFaults
pub mod FaultLine
-- What only ties private code.
pub mod inside
