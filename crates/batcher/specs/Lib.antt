pub mod Batch
pub mod Places
pub mod Plans
pub mod State
pub mod Invariant
pub mod Rows
pub mod Writing
pub mod Sealing
