pub mod Results
pub mod LawLemmas
pub mod FrontLemmas
pub mod NameLemmas
pub mod HoldLemmas
pub mod FindLemmas
pub mod PutLemmas
