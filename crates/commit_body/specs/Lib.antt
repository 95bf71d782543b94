pub mod Body
pub mod Fields
pub mod Laws
