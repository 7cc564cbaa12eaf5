mod Exchanging
pub mod Options
