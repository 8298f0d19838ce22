pub mod StreamLaws
pub mod FreshLaws
pub mod RunLaws
pub mod ResultLaws
pub mod ReportLaws
pub mod OneReport
pub mod PromiseLaws
