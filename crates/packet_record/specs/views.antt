-- What `.now` of a type means, by the type's fields, and what is true of these.
pub mod Flow
pub mod Gathered
pub mod Gatherers
pub mod PackedRow
pub mod Parsers
pub mod Readers
