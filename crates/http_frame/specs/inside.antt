-- What only proofs and the clauses of private functions cite.
pub mod Bodies
pub mod Fields
pub mod Frames
pub mod Heads
pub mod Runs
pub mod Steps
