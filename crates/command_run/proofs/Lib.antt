pub mod RunLemmas
pub mod FirstLemmas
pub mod StreamLemmas
