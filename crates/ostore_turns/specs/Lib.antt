-- What a run by turns is.
pub mod Places
pub mod LawfulTurns
pub mod Schedules
pub mod TurnResults
pub mod Bounds
pub mod Runs
-- What a run by turns says of its results.
pub mod RightResults
pub mod Alone
-- What only ties private code.
pub mod inside
