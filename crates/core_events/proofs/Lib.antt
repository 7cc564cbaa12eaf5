pub mod EventLemmas
pub mod ImageLemmas
pub mod ReplyLemmas
