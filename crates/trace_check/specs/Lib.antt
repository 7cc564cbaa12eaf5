pub mod GoodTraces
pub mod Images
pub mod Lines
pub mod Verdicts
