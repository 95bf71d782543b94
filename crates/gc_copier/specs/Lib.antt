pub mod Plan
pub mod Copying
pub mod Runs
