pub mod Decide
pub mod Lines
pub mod Numbers
pub mod Runs
pub mod Words
