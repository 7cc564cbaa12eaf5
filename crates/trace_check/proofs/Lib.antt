pub mod Exact
pub mod Found
pub mod Leaving
pub mod Made
pub mod Runs
pub mod Walk
