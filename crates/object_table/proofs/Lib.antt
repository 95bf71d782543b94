pub mod Numbers
pub mod Rows
pub mod Listed
pub mod Free
pub mod Passing
