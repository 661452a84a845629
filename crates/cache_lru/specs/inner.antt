-- The words of what no public clause names.
pub mod Layout
pub mod Missing
