-- What a run of a job on a server's pages promises.
pub mod Causes
pub mod Runs
-- What only ties private code.
pub mod inside
