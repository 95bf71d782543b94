pub mod Answers
pub mod Crash
pub mod Held
pub mod Places
pub mod Puts
pub mod Rig
pub mod Steps
