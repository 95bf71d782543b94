mod Outcomes
mod LastingLemmas
pub mod Passing
mod SlotStates
mod Steps
mod Readings
mod HalfLemmas
mod CommitLemmas
mod FormatLemmas
mod Newest
mod WriteLemmas
pub mod LogAreaLemmas
mod CrashSafeCommit
mod CallLemmas
mod NewestKept
mod MendLemmas
mod LoadLemmas
mod WithDisk
mod CommitPaths
mod MendPaths
mod LoadPaths
