pub mod Arguments
pub mod Errors
pub mod First
pub mod Lawful
pub mod Segments
pub mod Stack
pub mod Guest
pub mod inner
