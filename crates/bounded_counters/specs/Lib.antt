pub mod Counters
pub mod CounterLaws
pub mod CounterMeaning
pub mod Operations
