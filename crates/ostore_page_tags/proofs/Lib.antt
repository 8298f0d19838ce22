pub mod bytes
pub mod shape
pub mod walks
pub mod parts
pub mod changes
pub mod allocation
