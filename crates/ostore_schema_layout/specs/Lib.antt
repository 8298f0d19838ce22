-- What the contracts of public calls rest on.
pub mod Limits
pub mod Numbers
pub mod Cells
pub mod Lawful
pub mod Spells
pub mod DeclaredBy
pub mod Faults
pub mod Titles
pub mod Order
pub mod Resolved
pub mod Parsed
-- What only ties private code.
pub mod inside
