pub mod Help
pub mod MemWorld
pub mod QuietWorld
pub mod Run
