pub mod Codes
pub mod Images
pub mod Tables
pub mod StepFacts
pub mod Tries
