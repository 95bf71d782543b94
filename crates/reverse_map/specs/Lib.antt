pub mod Ranges
pub mod Order
