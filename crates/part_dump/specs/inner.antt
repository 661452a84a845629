-- Laws that implementations of traits give. No public clause rests on their words.
pub mod PlainLaw
