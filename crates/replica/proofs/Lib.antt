pub mod Access
pub mod LineLoads
mod LineCopies
pub mod CopySteps
mod Reading
pub mod RegionLaws
mod Runs
pub mod Replaying
pub mod Persisting
pub mod Renewing
mod Listing
pub mod Stepping
