pub mod Orders
pub mod Opps
pub mod Traces
pub mod TraceText
pub mod Reading
pub mod Made
pub mod TraceIn
