pub mod FitLemmas
pub mod StreamLemmas
pub mod ImageLemmas
pub mod CopyLemmas
