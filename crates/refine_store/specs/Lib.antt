pub mod Puts
pub mod Stored
pub mod Laws
