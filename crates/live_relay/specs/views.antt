-- What `.now` of a type means, by the type's fields, and what is true of these.
pub mod MemWire
pub mod Line
pub mod Meeting
