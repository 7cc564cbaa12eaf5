pub mod Buffering
