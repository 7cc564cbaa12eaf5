pub mod Documents
pub mod JsonLoops
pub mod Loads
pub mod Measures
pub mod Sums
