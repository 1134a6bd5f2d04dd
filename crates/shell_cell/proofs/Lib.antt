pub mod StateLaws
pub mod Seating
pub mod Histories
pub mod Keeps
pub mod Calls
pub mod Clauses
