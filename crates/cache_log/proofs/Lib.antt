mod Places
mod Slices
mod Reaches
mod Records
pub mod RowLemmas
mod LogAreaLemmas
mod Stops
mod CommittedLemmas
mod ReadCounts
mod ReadLemmas
mod AheadLemmas
mod PaidLemmas
mod ReadRowsLemmas
mod PaidRows
mod WriteLemmas
mod AppendLemmas
mod FormatLemmas
mod OpenLemmas
mod CommitLemmas
mod TrimLemmas
pub mod ForCallers
