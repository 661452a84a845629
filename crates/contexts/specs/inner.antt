-- Words of private contracts. No public clause rests on them.
pub mod Keys
pub mod Ties
