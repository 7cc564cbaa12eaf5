pub mod Gathering
pub mod Pooling
