pub mod Program
pub mod Trace
pub mod Steps
pub mod Sizes
pub mod Parts
pub mod Runs
pub mod inner
