pub mod HistoryLemmas
mod OwnerDeviceLemmas
pub mod ClientLemmas
