-- What proofs and the clauses of inner functions cite, and no caller needs.
pub mod ClapTable
pub mod Found
pub mod Givens
pub mod Held
pub mod Options
