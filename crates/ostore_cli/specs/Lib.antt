-- what the contracts of the public calls rest on
pub mod Commands
pub mod Streams
pub mod FreshRuns
pub mod Promise
pub mod LawsOfReports
-- what only ties private code
pub mod inside
