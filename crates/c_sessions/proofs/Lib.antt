pub mod Endings
pub mod Gatherings
pub mod Numbers
pub mod Places
