pub mod PlaceLemmas
pub mod Windows
