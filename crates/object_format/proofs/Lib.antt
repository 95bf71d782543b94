pub mod PartLemmas
pub mod HeaderLemmas
pub mod TestLemmas
pub mod RowLemmas
pub mod ObjectLemmas
pub mod WritingLemmas
pub mod LawLemmas
pub mod SpellingLemmas
