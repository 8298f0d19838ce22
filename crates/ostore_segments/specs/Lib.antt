-- What the contracts of public calls rest on.
pub mod Holdings
pub mod Seen
pub mod Edits
pub mod Room
pub mod Serials
pub mod Growth
pub mod Naming
pub mod Placing
pub mod Adding
pub mod Making
pub mod Listing
pub mod SchemaCells
-- What only ties private code.
pub mod inside
