pub mod Commands
pub mod Ends
pub mod FirstRevisions
pub mod JournalTexts
pub mod LifeTexts
pub mod Loading
pub mod OneAnswer
pub mod PlainReplies
mod Pooling
pub mod ReadTexts
pub mod Upgraded
