pub mod Reading
pub mod Block
