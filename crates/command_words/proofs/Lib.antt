pub mod RequestLemmas
pub mod GeometryLemmas
pub mod RowLemmas
pub mod ValueLemmas
pub mod WithinLemmas
