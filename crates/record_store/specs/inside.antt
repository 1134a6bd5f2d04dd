-- What only proofs and the clauses of private functions cite.
pub mod Cuts
pub mod CutsMore
pub mod Exchanges
pub mod Headers
pub mod Pairs
