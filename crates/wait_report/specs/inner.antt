-- Words of private contracts, and what proves the law of the watch. No public clause rests on them.
pub mod Room
pub mod Lookups
pub mod Counts
pub mod Passing
pub mod Waking
pub mod Beginning
pub mod Law
pub mod Quiet
