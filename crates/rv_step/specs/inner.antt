-- Words for the functions within the crate. No public clause cites these modules.
pub mod Combined
pub mod Places
pub mod Stored
pub mod Table
pub mod Widths
