pub mod Queues
pub mod View
pub mod Arguments
pub mod Faults
pub mod inside
