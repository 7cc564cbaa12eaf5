pub mod Sums
pub mod ReadBack
