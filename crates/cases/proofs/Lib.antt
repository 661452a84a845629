pub mod DiskLemmas
pub mod SmallLemmas
pub mod WithinLemmas
