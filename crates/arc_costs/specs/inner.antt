-- Words of private contracts. No public clause rests on them.
pub mod Exact
pub mod Shape
pub mod Somes
pub mod Sums
pub mod Ties
pub mod Tree
