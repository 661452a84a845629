pub mod Hex
pub mod Memory
pub mod Names
pub mod Ties
