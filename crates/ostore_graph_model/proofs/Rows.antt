-- Each transaction of specs/Examples.antt, FullGraphs.antt, RefusalOrders.antt and FullSets.antt, command by command.
pub mod DisplacedPartners
pub mod DeletedItem
pub mod SetItems
pub mod DanglingReference
pub mod ListsAndDictionaries
pub mod ReadingOnly
pub mod OrderOfRefusals
pub mod PathQueries
pub mod SerialsEnd
pub mod RootsEnd
pub mod IndexesWantInverses
pub mod CollectionRefusals
pub mod PartnersOfBoth
pub mod FullSet
pub mod FilledSet
