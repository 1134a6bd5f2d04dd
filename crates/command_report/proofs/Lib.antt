pub mod ReportLemmas
pub mod MakeLemmas
pub mod Totals
pub mod LoadLemmas
pub mod TraceLemmas
pub mod WordLemmas
pub mod SeriesLemmas
