pub mod Stream
pub mod Links
pub mod View
pub mod Promises
pub mod Pieces
pub mod inside
pub mod views
