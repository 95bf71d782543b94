pub mod ImageLemmas
pub mod SectorLemmas
