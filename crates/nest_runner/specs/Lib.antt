pub mod Lanes
pub mod Streaming
pub mod inside
