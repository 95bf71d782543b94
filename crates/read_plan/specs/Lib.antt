pub mod Plan
pub mod Places
pub mod Rows
pub mod Look
pub mod Laws
