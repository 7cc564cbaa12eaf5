pub mod Taken
pub mod Crashes
pub mod Images
pub mod Kept
pub mod Outcomes
pub mod Recovery
pub mod Reopened
pub mod Results
