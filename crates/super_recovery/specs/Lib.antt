pub mod Faults
pub mod Fronts
pub mod Holds
pub mod Found
pub mod Ancestors
pub mod Put
pub mod Laws
