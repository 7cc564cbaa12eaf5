pub mod Commands
pub mod Judging
pub mod Kinds
pub mod Reading
pub mod Reasons
pub mod Traces
