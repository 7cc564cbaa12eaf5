pub mod Accesses
mod GapNotes
pub mod NotingLaws
mod Ready
mod Stored
