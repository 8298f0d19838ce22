-- What contracts of public calls rest on; `inside` only ties private code.
pub mod Kinds
pub mod Cells
pub mod Clients
pub mod Attempts
pub mod Calls
pub mod Arrivals
pub mod Retaining
pub mod Commits
pub mod inside
