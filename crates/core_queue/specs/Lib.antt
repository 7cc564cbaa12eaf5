pub mod Frames
pub mod Live
pub mod Queue
pub mod NotedSets
