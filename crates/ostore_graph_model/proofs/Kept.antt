-- Commands keep a graph of the schema: what a change of a part keeps, then the commands by groups.
pub mod Parts
pub mod Objects
pub mod References
pub mod SetMembers
pub mod Collections
pub mod Indexes
pub mod Graphs
