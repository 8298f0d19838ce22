pub mod ServiceLaws
pub mod SumLaws
pub mod AddLaws
