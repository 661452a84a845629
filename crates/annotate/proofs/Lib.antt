pub mod PlaceLemmas
pub mod CallLemmas
pub mod SelfLemmas
pub mod FileLemmas
pub mod SourceLemmas
pub mod TextLemmas
pub mod WholeLemmas
