pub mod Contexts
pub mod inner
