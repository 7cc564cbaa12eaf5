pub mod LastPairs
pub mod LineParts
pub mod MissingLines
pub mod Written
