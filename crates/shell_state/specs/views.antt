-- What `.now` of a type means, by the type's fields, and what is true of these.
pub mod ShellState
pub mod Whole
pub mod Core
