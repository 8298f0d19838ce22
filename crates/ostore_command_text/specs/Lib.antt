-- What the contracts of public calls rest on.
pub mod Limits
pub mod CommandWords
pub mod WordsSaid
pub mod CommandsSaid
pub mod LawfulCommands
-- What only ties private code.
pub mod inside
