pub mod RunLemmas
pub mod BranchLemmas
pub mod ShapeLemmas
pub mod RecencyLemmas
pub mod LineLemmas
pub mod HistoryLemmas
