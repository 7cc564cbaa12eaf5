pub mod Documents
pub mod ImageTexts
pub mod Outcomes
pub mod PoolTexts
pub mod ScriptTexts
pub mod TraceTexts
