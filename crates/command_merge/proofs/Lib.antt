pub mod ListLemmas
pub mod ScheduleLemmas
pub mod MergeLemmas
pub mod FileLemmas
