-- What the steps of the reading answer. No public clause rests on these words.
pub mod Stages
