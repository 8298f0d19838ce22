-- What the contracts of public calls rest on.
pub mod Words
pub mod Lines
pub mod Seen
pub mod LineWords
pub mod Gives
-- What only ties private code.
pub mod inside
