pub mod Calls
pub mod Joined
pub mod Loads
pub mod Reading
pub mod WantedFile
pub mod inner
