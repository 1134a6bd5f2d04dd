-- What only proofs and the clauses of private functions cite.
pub mod Compared
pub mod Index
pub mod Match
