pub mod ResolveLawsLists
pub mod ResolveLawsFaults
pub mod ResolveLawsPlaces
pub mod ResolveLawsNames
pub mod ResolveLaws
