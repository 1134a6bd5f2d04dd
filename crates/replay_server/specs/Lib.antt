pub mod Answers
pub mod Sessions
pub mod Links
pub mod Servings
pub mod Giving
pub mod inside
