pub mod History
pub mod Seats
pub mod inside
pub mod views
