pub mod Summaries
pub mod Raised
pub mod Copies
pub mod Marks
pub mod Wins
pub mod Following
