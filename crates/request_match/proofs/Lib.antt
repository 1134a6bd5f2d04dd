pub mod MatchLemmas
pub mod FrontLemmas
pub mod IndexLemmas
pub mod LineLemmas
pub mod AloneLemmas
pub mod DecideLemmas
