pub mod LossLaws
pub mod Wholes
pub mod RateTexts
