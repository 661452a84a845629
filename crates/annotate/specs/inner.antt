-- Words of private contracts. No public clause rests on them.
pub mod Errors
pub mod Layout
pub mod SourceRows
