pub mod Answers
pub mod Clients
pub mod Lending
pub mod Pools
