mod Closing
pub mod GapLoads
mod GapSteps
pub mod GapWalks
mod Handing
mod Keeping
mod MadeSteps
mod Marking
mod Opening
pub mod Runs
mod SetOffers
mod Taking
