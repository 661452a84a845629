pub mod KnownLemmas
pub mod PartLemmas
pub mod RowLemmas
pub mod SumLemmas
