-- What contracts see of each public type (`.now`), by its fields.
pub mod MarkedRows
pub mod Marking
pub mod Nest
pub mod NestWords
pub mod PackedFate
pub mod RunResult
