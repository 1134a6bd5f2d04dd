pub mod Inputs
pub mod Loaded
pub mod NestReading
pub mod RunFiles
