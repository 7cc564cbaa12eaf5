pub mod Program
pub mod Spelling
