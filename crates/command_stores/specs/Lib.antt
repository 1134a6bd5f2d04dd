pub mod Ports
pub mod Requests
pub mod Recording
pub mod Matching
pub mod Migrating
pub mod Replaying
pub mod inside
