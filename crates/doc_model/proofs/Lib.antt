pub mod AfterSteps
pub mod Order
pub mod KeyPlaces
pub mod OpKinds
pub mod PackedTexts
pub mod PartsHeld
pub mod PartPlaces
mod Puts
pub mod ReplyKinds
pub mod Revised
pub mod Stores
pub mod WordTexts
