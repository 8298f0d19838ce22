-- What contracts of public calls rest on; `inside` only ties private code.
pub mod Attempts
pub mod Causes
pub mod Lines
pub mod Retained
pub mod Ends
pub mod inside
