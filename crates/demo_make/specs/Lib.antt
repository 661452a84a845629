pub mod Draws
pub mod Instructions
pub mod Layout
pub mod Functions
pub mod Program
pub mod inner
