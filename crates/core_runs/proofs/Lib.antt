pub mod Counting
pub mod Going
pub mod ImageLaws
pub mod Keeps
pub mod Ordering
pub mod Since
pub mod WholeLaws
