-- What contracts see of each type (`.now`), by its fields.
pub mod Channel
pub mod Unsent
pub mod World
pub mod Worlds
