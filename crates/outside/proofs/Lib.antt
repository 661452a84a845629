pub mod FrontLemmas
pub mod PutLemmas
pub mod ShelfLemmas
pub mod TellLemmas
pub mod JournalLemmas
pub mod WriteLemmas
