pub mod LineWalk
pub mod LineReader
