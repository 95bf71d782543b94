pub mod PartLemmas
pub mod ChainLemmas
pub mod HeadLemmas
pub mod TestLemmas
pub mod LongLemmas
pub mod LawLemmas
pub mod NumberedLemmas
