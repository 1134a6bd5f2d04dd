pub mod Numbers
pub mod Lines
pub mod Words
pub mod LinesLeft
pub mod Refusals
pub mod inside
