mod Asking
mod Ending
mod Ghosts
pub mod InOrder
pub mod InTurn
mod Joining
pub mod Kept
pub mod Legal
pub mod Lines
mod Living
mod Making
mod Impossible
mod Opening
mod Recording
