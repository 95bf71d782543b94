pub mod Places
pub mod Rows
pub mod Checkpoint
pub mod Reading
pub mod Writing
pub mod Fields
pub mod Laws
