pub mod Limits
pub mod Naming
pub mod NoCuts
pub mod Order
pub mod Plainly
pub mod Records
pub mod Results
pub mod RunLives
