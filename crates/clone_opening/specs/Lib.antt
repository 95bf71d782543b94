pub mod Raised
pub mod Laws
