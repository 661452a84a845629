pub mod Keys
pub mod Indexes
pub mod Ranks
pub mod Same
pub mod inner
