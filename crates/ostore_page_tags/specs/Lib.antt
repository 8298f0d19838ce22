-- What the contracts of public calls rest on.
pub mod Limits
pub mod Numbers
pub mod Header
pub mod Rows
pub mod Cells
pub mod Rules
pub mod FaultNames
pub mod Changes
pub mod PageLists
pub mod PageChains
pub mod Allocated
pub mod PagePointers
pub mod FreshPages
-- What only ties private code.
pub mod inside
