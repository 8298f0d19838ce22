-- What the contracts of public calls rest on.
pub mod Results
pub mod Report
