pub mod Limits
pub mod Range
pub mod Image
pub mod Laws
