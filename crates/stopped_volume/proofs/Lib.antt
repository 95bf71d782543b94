pub mod StandLemmas
pub mod WholeLemmas
pub mod InheritedLemmas
