pub mod Report
pub mod ReportReading
pub mod Made
pub mod Summaries
pub mod SummaryText
pub mod Make
pub mod inside
