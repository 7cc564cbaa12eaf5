pub mod Gatherings
pub mod Orderings
pub mod Poolings
pub mod Telling
