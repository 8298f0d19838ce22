pub mod LawfulLawsPlaces
pub mod LawfulLaws
