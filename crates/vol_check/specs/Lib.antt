pub mod Errors
pub mod Report
pub mod Steps
