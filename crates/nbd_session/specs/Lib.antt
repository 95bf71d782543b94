pub mod Requests
pub mod BlockDevice
pub mod Exchanges
pub mod Session
pub mod Steps
