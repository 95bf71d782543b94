pub mod RowLemmas
pub mod SpellingLemmas
pub mod CheckpointLemmas
pub mod LawLemmas
pub mod WritingLemmas
