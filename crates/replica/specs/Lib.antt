pub mod Held
pub mod Regions
pub mod Outcomes
pub mod Replays
pub mod Flushes
pub mod Copies
pub mod Laws
pub mod Stepping
