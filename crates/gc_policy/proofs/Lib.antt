pub mod Order
pub mod Found
pub mod Taken
