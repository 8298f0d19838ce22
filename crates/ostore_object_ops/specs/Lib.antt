-- What commands do to pages. Contracts of public calls rest on the files named first; what ties only private code
-- stands in `inside`.
pub mod Bound
pub mod Means
pub mod Suits
pub mod Progresses
pub mod Claiming
pub mod Executes
pub mod Stops
pub mod Lines
pub mod LawsOfRuns
pub mod inside
