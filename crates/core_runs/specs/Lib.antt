pub mod Counting
pub mod Frames
pub mod Linearizable
pub mod RealTime
