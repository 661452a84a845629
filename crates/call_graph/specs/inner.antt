-- The pass over the functions. No public clause rests on its words.
pub mod Pass
pub mod Rows
