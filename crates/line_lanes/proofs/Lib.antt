mod DifferingLines
pub mod LineMarks
mod TouchedLines
