pub mod Adapter
pub mod Faults
pub mod Memory
