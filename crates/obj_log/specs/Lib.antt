pub mod State
pub mod Changes
pub mod Stream
pub mod Lending
pub mod Laws
pub mod ImageLaws
