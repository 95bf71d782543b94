pub mod MessageLemmas
mod ReadingLemmas
mod WritingLemmas
