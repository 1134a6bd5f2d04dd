-- What only proofs and the clauses of private functions cite.
pub mod ChannelViews
pub mod Does
pub mod Stations
pub mod Standing
pub mod WorldViews
