pub mod BlankLemmas
pub mod CompleteLemmas
pub mod LoadLemmas
pub mod ReadingLemmas
pub mod TellsLemmas
