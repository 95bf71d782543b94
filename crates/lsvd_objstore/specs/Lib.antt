pub mod Objects
pub mod Store
pub mod Memory
pub mod Faulty
pub mod Laws
pub mod Spelled
pub mod Directory
pub mod Placing
