pub mod Entries
pub mod View
pub mod Words
pub mod LogText
pub mod Reading
pub mod LogParts
pub mod inside
pub mod views
