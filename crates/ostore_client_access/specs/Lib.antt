-- What contracts of public calls rest on; `inside` only ties private code.
pub mod Accesses
pub mod Attempts
pub mod inside
