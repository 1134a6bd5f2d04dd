pub mod BothLanes
pub mod Carrying
pub mod Chains
pub mod Gathered
pub mod Streamed
