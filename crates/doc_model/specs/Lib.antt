pub mod Meaning
pub mod Place
pub mod Revisions
pub mod WordParts
pub mod Words
pub use Rattle.cx_base.specs.Store
pub use Rattle.plain_text.specs.Number
