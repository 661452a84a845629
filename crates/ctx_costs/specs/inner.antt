-- Words of private contracts. No public clause rests on them.
pub mod Frames
pub mod Tellings
pub mod Naming
pub mod Tracks
pub mod WatchLaw
