pub mod MemoryLemmas
pub mod PackingLemmas
pub mod ReadLemmas
pub mod WordLemmas
