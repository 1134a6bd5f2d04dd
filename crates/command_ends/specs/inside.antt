-- What proofs and the clauses of inner functions cite, and no caller needs.
pub mod Ends
pub mod Loads
pub mod Readings
pub mod Accepted
pub mod Stops
