pub mod Cells
pub mod Collecting
pub mod Entries
pub mod Leaves
pub mod Links
pub mod Protections
pub mod Tests
