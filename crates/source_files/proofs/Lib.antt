pub mod HeldLemmas
pub mod NameLemmas
pub mod SourceLemmas
pub mod TellsLemmas
