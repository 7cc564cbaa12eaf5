pub mod Noting
pub mod Offered
pub mod Own
pub mod Storing
