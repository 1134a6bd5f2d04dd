pub mod Ends
pub mod Reading
pub mod Sending
pub mod Stages
pub mod StreamParts
pub mod inside
