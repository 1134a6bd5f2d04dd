pub mod Rates
pub mod Losses
pub mod Sources
pub mod Cores
pub mod RateValues
