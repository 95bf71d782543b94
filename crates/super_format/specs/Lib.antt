pub mod Ancestors
pub mod Super
pub mod Tests
pub mod Numbered
pub mod Epoch
pub mod Hold
pub mod Laws
