pub mod Cut
pub mod Clear
pub mod Join
pub mod Extents
pub mod Changes
pub mod State
pub mod Laws
