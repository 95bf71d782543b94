pub mod Order
pub mod Starts
pub mod Places
pub mod Lowest
