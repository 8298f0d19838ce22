pub mod PlainPages
pub mod FreshChains
pub mod FreshParts
pub mod FreshPages
pub mod ChainLaws
