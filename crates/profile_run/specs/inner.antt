-- The words of what no public clause names.
pub mod Begun
pub mod Standing
