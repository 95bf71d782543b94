pub mod Messages
pub mod Reading
pub mod Writing
pub mod Fields
pub mod Heads
pub mod Laws
