pub mod AccessLemmas
pub mod CauseLemmas
pub mod PromiseLemmas
pub mod StoreLemmas
pub mod TableLemmas
pub mod CodeLemmas
