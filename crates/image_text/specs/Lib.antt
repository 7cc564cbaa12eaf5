pub mod ImageTexts
pub mod Judging
pub mod Printing
pub mod Reading
pub mod Reasons
