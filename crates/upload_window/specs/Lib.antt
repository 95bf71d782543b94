pub mod Window
pub mod Ready
