pub mod FailLaws
pub mod LineLaws
pub mod CommitLaws
pub mod OtherLaws
pub mod WholeLaws
pub mod TestLaws
pub mod RetainLaws
