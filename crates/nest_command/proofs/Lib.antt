pub mod TraceLemmas
pub mod InputLemmas
pub mod NestLemmas
pub mod NestRefusals
pub mod LogFileLemmas
pub mod OutputLemmas
pub mod TableFileLemmas
