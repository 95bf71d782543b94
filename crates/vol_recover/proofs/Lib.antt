pub mod Results
pub mod ForCallers
pub mod CreateLemmas
pub mod CreationLemmas
mod DescribeLemmas
pub mod BlankLemmas
pub mod NewLemmas
pub mod MadeLemmas
pub mod StandLemmas
pub mod StopLemmas
pub mod AgainLemmas
pub mod AdmitLemmas
