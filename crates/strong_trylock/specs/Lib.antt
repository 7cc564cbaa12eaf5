pub mod Held
pub mod Tries
pub mod Ends
