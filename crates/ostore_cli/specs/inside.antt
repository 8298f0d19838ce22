-- What only ties private code: no contract of a public call cites it.
pub mod HasRead
pub mod InputCause
pub mod Answer
pub mod Runs
