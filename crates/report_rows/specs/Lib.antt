pub mod Orders
pub mod Tables
pub mod Entries
pub mod Ranks
pub mod Lists
