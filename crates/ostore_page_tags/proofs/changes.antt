pub mod AddLaws
pub mod DeadLaws
pub mod EditLaws
