pub mod ListLemmas
pub mod SumLemmas
pub mod EntryLemmas
pub mod OrderLemmas
pub mod RowLemmas
