pub mod Letters
pub mod Reason
pub mod Answers
pub mod Transcript
pub mod Reached
