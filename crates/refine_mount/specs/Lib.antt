pub mod Found
pub mod Mounted
pub mod Stops
pub mod Rest
pub mod Laws
