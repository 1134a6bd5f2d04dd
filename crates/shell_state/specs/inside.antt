-- What proofs and the clauses of inner functions cite, and no caller needs.
pub mod Fed
pub mod Fronts
pub mod Standing
pub mod StateInside
pub mod CoreInside
pub mod Lawful
