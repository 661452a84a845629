pub mod Waits
pub mod Rows
pub mod Keeping
pub mod Standing
pub mod Texts
pub mod inner
