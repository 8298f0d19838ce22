-- That the graph for which valid pages stand is one of their schema, part by part.
pub mod Bytes
pub mod Rows
pub mod Values
pub mod Collections
pub mod Pairs
pub mod Roots
pub mod Indexes
pub mod Graphs
