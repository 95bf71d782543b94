pub mod Describing
pub mod Mounting
pub mod Creating
pub mod Admitting
pub mod Standing
