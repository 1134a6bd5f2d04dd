-- What only proofs and the clauses of private functions cite.
pub mod Rule
pub mod Seats
pub mod Sides
