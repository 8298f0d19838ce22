pub mod OrderLaws
pub mod CountLaws
pub mod CacheLaws
