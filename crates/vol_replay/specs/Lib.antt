pub mod Answers
pub mod Churn
pub mod Lines
pub mod Steps
pub mod Written
