pub mod OwnerDevice
pub mod History
pub mod Serving
