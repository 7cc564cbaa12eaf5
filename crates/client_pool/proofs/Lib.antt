pub mod Calling
mod Closing
mod History
mod Lends
mod Opening
mod Tickets
pub mod Weights
mod Whole
