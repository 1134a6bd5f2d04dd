-- What proofs and the clauses of inner functions cite, and no caller needs.
pub mod MemWires
pub mod Pieces
pub mod Stamped
pub mod Turns
pub mod Ways
pub mod LineViews
pub mod Meeting
