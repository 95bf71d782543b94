pub mod PinLemmas
mod PartLemmas
mod RowLemmas
mod LogLemmas
mod PieceLemmas
mod NumberLemmas
mod PlanLemmas
mod FetchLemmas
pub mod GivenLemmas
