pub mod Answering
pub mod CommandLaws
pub mod Forms
pub mod Loading
pub mod Transfer
pub mod WordsJudged
