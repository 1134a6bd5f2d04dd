-- What proofs and the clauses of inner functions cite, and no caller needs.
pub mod Gathered
pub mod Gatherers
pub mod Parsers
pub mod Readers
pub mod Views
