pub mod AddingLemmas
pub mod CountLemmas
pub mod HoldsLemmas
pub mod PairLemmas
pub mod WithinLemmas
