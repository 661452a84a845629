pub mod AppLemmas
pub mod BuilderLemmas
pub mod ReadLemmas
pub mod RowLemmas
pub mod RuleLemmas
pub mod SortLemmas
pub mod WordLemmas
