pub mod HeaderLemmas
pub mod TestLemmas
pub mod RecordLemmas
pub mod ForCallers
