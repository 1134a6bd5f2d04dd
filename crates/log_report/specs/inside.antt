-- What only proofs and the clauses of private functions cite.
pub mod BinSums
pub mod Counted
pub mod Places
