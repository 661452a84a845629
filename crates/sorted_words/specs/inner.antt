-- What `clap` is told, and what it finds. No public clause cites these modules.
pub mod Builder
pub mod Matches
