pub mod ApartLemmas
pub mod CutLemmas
pub mod FileLemmas
pub mod NameLemmas
pub mod RuleLemmas
pub mod StepLemmas
pub mod LiveLemmas
pub mod WatchLemmas
