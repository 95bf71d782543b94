pub mod Directory
pub mod Stop
pub mod Calls
pub mod System
pub mod Memory
pub mod Kept
pub mod Written
