mod Boxed
pub mod Bases
pub mod Checkpointed
pub mod Closed
pub mod InBoxes
pub mod Openings
pub mod OtherBefore
pub mod ProgramsMade
pub mod Refused
pub mod Replies
pub mod SameLines
pub mod TakenUp
pub mod BasesForKinds
