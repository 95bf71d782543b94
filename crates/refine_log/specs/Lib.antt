pub mod Shows
pub mod Logged
pub mod Fuses
pub mod Laws
pub mod Pending
pub mod PendingLaws
pub mod Stops
pub mod StopLaws
