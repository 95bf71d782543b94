pub mod Hexadecimal
pub mod Names
