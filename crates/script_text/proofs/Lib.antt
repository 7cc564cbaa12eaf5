pub mod EndTexts
pub mod LastLives
pub mod OwnOps
pub mod Records
pub mod WithinLimits
