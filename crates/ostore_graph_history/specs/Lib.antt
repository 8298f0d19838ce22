-- What histories of pages say of graphs.
pub mod Histories
pub mod Space
