pub mod Numbers
pub mod Grammar
pub mod Tests
pub mod Laws
