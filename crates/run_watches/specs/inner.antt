-- The law that the implementation of the trait gives. No public clause rests on its words.
pub mod Law
