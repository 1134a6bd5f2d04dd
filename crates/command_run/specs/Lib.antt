pub mod Run
pub mod RunReading
pub mod inside
