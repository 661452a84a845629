mod Others
pub mod TellingLemmas
pub mod NumberedLemmas
pub mod ClosingLemmas
pub mod OpeningLemmas
pub mod SummedLemmas
pub mod SoundLemmas
pub mod FoundLemmas
pub mod WatchLemmas
pub mod ChangedLemmas
pub mod StepLemmas
pub mod ReadyLemmas
pub mod SeenLemmas
pub mod RowsLemmas
pub mod OpenLemmas
