pub mod Exact
pub mod Replies
pub mod Taken
pub mod Words
