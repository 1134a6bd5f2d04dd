-- What only proofs and the clauses of private functions cite.
pub mod Forms
pub mod Values
