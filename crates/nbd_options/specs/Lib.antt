pub mod Export
pub mod Info
pub mod Answers
pub mod Replies
pub mod Negotiation
pub mod Steps
pub mod Laws
