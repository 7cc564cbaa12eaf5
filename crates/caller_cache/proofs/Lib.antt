pub mod Rows
pub mod SetNumbers
mod CopyLaws
pub mod OwnEntries
pub mod SummaryLaws
pub mod FollowedSteps
mod Refused
pub mod Copying
pub mod Raising
pub mod Covering
pub mod OpeningSeats
pub mod Chaining
