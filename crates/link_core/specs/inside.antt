-- What proofs and the clauses of inner functions cite, and no caller needs.
pub mod Back
pub mod InPlace
pub mod Laps
pub mod Moves
pub mod Orders
pub mod Play
pub mod Promises
pub mod Same
pub mod Served
pub mod Sound
pub mod State
pub mod Stream
pub mod Written
