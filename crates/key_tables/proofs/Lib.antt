pub mod FirstLemmas
pub mod IndexLemmas
pub mod MissingLemmas
pub mod MixedLemmas
pub mod RankLemmas
pub mod TableLemmas
