pub mod Closed
pub mod Tests
