pub mod Determined
pub mod Existence
pub mod LandedLetters
pub mod Reached
pub mod Removals
pub mod Replies
