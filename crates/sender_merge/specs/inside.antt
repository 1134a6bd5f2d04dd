-- What proofs and the clauses of inner functions cite, and no caller needs.
pub mod Feeding
pub mod Gates
pub mod Inlets
pub mod Inside
pub mod Laws
pub mod Lefts
pub mod Outlets
pub mod RowLists
pub mod RowMerges
pub mod SendersInside
pub mod Standing
pub mod Thins
pub mod Steps
