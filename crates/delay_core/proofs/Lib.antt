pub mod Delaying
pub mod Fronts
