-- How the sums are counted. No public clause rests on its words.
pub mod Counting
pub mod Pairs
