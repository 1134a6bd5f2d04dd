pub mod Merges
pub mod Inflows
pub mod Steps
pub mod Laws
pub mod RowLists
pub mod inside
pub mod views
