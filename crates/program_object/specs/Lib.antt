pub mod Fingerprint
pub mod Laws
pub mod Meaning
pub mod Run
