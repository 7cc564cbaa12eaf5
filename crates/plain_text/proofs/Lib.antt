pub mod Beginnings
pub mod Cuts
pub mod Decimals
pub mod LineByLine
pub mod Numerals
pub mod WordCuts
