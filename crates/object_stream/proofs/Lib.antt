pub mod ChangeLemmas
pub mod StreamLemmas
pub mod LandedLemmas
pub mod ReplayLemmas
pub mod ValueLemmas
pub mod PlainLemmas
pub mod OneLemmas
pub mod StillLemmas
