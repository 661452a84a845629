-- Words of the contracts inside the crate. No public clause cites them.
pub mod Building
pub mod Contents
pub mod Files
pub mod Fronts
pub mod Matrix
pub mod Paths
pub mod Reads
pub mod Tables
