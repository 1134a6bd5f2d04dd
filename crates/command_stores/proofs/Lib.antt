pub mod NameLemmas
pub mod RequestLemmas
pub mod RecordLemmas
pub mod MigrateLemmas
pub mod MatchLemmas
pub mod ReplayLemmas
pub mod FirstLemmas
