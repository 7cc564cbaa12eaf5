pub mod Layers
pub mod Appearing
pub mod OneOrder
pub mod Composing
pub mod Imaging
