pub mod Tasks
pub mod Commands
