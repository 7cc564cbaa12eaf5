pub mod TotalOrder
pub mod CrashedLives
