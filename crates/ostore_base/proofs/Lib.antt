pub mod FaultLemmas
pub mod StreamLemmas
pub mod DiskLemmas
pub mod ImageLemmas
pub mod MomentLemmas
pub mod RecordLemmas
pub mod CrashLemmas
