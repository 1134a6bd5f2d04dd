pub mod Jobs
pub mod Lines
pub mod Relaying
pub mod Outputs
pub mod inside
