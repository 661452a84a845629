pub mod Names
pub mod Files
pub mod Functions
pub mod Calls
pub mod Sources
pub mod Report
pub mod inner
