pub mod Calls
pub mod Places
pub mod Closings
pub mod Handing
pub mod Images
pub mod Rule
pub mod Sessions
