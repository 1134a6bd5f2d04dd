pub mod List
pub mod FateLines
pub mod Merge
pub mod MergeReading
pub mod inside
