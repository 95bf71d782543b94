pub mod Following
pub mod Lists
pub mod Shown
pub mod Appended
pub mod PlainCommits
pub mod Commits
pub mod FuseLemmas
pub mod Asked
mod Cached
mod Bodies
mod Gates
pub mod PendingShown
pub mod RunLemmas
pub mod HeldLemmas
pub mod EntryLemmas
pub mod ReadLemmas
pub mod Sizes
pub mod StopLemmas
pub mod CommittedLemmas
