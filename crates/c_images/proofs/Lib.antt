pub mod Keeping
pub mod Named
pub mod Placed
pub mod Same
pub mod Slots
pub mod Written
