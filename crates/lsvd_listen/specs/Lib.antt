pub mod Buffer
pub mod Listening
pub mod Memory
pub mod Socket
