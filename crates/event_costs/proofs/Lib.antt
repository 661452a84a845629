pub mod CostLemmas
pub mod FuncSetLemmas
mod KindLemmas
pub mod OneLemmas
pub mod RunLemmas
