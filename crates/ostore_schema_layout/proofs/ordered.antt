pub mod OrderLawsLines
pub mod OrderLawsDeclared
pub mod OrderLaws
