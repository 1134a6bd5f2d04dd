pub mod Sizes
pub mod ArgumentsLemmas
pub mod Limits
