pub mod Layout
pub mod Header
pub mod Rows
pub mod Object
pub mod Writing
pub mod Tests
pub mod Laws
