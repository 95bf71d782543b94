mod Churned
mod Commands
mod Fates
pub mod Progress
mod Refused
pub mod Results
mod Unstopped
