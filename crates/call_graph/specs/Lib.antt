pub mod Groups
pub mod Reach
pub mod inner
