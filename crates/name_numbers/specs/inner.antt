-- Words of the contracts inside the crate. No public clause cites them.
pub mod CleanNames
pub mod FileNameKeys
pub mod FileNamePlaces
pub mod Fronts
pub mod NameOrder
pub mod Places
pub mod Tagging
pub mod Tails
pub mod Ties
