pub mod Leads
mod Kept
mod Listed
pub mod Files
pub mod Others
pub mod Chained
