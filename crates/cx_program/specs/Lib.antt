pub mod Answer
pub mod CommandLine
pub mod Commands
pub mod Input
pub mod Output
pub mod Status
pub mod Texts
pub mod Words
