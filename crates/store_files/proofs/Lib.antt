pub mod StoreLemmas
pub mod WritingLemmas
