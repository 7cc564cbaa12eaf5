pub mod Asking
pub mod Gathering
pub mod Ghosts
pub mod PoolLives
pub mod PoolRuns
pub mod Recorded
pub mod Running
pub mod Working
