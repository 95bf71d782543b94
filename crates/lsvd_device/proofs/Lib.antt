mod Fused
mod Moments
mod Replayed
pub mod Stopped
pub mod Passed
pub mod Together
