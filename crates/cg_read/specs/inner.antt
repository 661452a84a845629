-- Words of private contracts, and laws that implementations of traits give. No public clause rests on them.
pub mod Drafts
pub mod Events
pub mod Ids
pub mod Gains
pub mod Knowing
pub mod KnowingAddresses
pub mod Same
pub mod Texts
