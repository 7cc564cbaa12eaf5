pub mod Queries
pub mod ReadEntries
mod Kept
mod Stepping
pub mod ReadSteps
mod Refusals
mod Taken
pub mod Working
pub mod Bringing
pub mod Renewed
pub mod Answered
pub mod Images
