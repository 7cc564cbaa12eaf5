pub mod Bases
pub mod EntryReads
mod Opening
mod Results
mod Tries
mod Writes
