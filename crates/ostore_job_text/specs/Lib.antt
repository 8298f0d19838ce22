-- What the contracts of public calls rest on.
pub mod Limits
pub mod JobFaults
pub mod Canonical
pub mod WordsSaid
pub mod LinesSaid
pub mod Drafted
pub mod ParsedJob
pub mod LawfulJob
pub mod FaultsOf
pub mod JobSpelling
pub mod WithinLimits
pub mod RunnableJobs
-- What only ties private code.
pub mod inside
