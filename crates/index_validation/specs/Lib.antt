pub mod Blocks
pub mod Lawful
pub mod Layout
pub mod Listing
pub mod Order
pub mod Reading
pub mod Shape
