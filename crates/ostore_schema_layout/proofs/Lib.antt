pub mod spelled
pub mod ordered
pub mod resolved
pub mod lawful
pub mod places
pub mod parsed
