pub mod Medium
