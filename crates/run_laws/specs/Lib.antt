pub mod Runs
pub mod Profiles
pub mod ThreadWork
pub mod OwnParts
pub mod Contexts
pub mod Addresses
pub mod Maps
