-- What proofs and the clauses of inner functions cite, and no caller needs.
pub mod Loaded
pub mod Passed
pub mod Values
pub mod Modes
