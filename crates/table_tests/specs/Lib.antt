pub mod Replaying
pub mod Trylocks
pub mod Turns
