-- What only proofs and the clauses of private functions cite.
pub mod Carrying
pub mod Ends
pub mod Rules
pub mod Sides
