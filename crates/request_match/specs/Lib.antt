pub mod Match
pub mod Indexed
pub mod inside
